use Rattle.pawn_cli.proofs.file_sizes.FileSizes.of.Goals as goal

pub code_place-requires : goal.code_place-requires
code_place-requires c = (c.args.amx.now, c.requires.file)
