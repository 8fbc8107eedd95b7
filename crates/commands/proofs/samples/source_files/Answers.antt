use Rattle.std.proofs.Common.{◌∙◌, ap, ap₂}
use Rattle.std.specs.FinMap.{insert}
use Rattle.pawn_outside.specs.MemoryFiles.{FakeFiles}
use Rattle.commands.specs.Samples.{sample_name}
use Rattle.commands.proofs.samples.source_files.Goals as goal

pub returns : goal.returns
returns c =
    let made = c.in_ok-files.ensures in
    let holds = c.in_ok-hold.ensures.ok in (
      ap (λ (f : FakeFiles). f.held) holds
          ∙ ap₂ (λ held bytes. insert held sample_name bytes) (ap (λ (f : FakeFiles). f.held) made)
          (c.as_slice.ensures ∙ c.in_ok-source.ensures),
      ap (λ (f : FakeFiles). f.schedule.fails) holds
          ∙ ap (λ (f : FakeFiles). f.schedule.fails) made,
    )
