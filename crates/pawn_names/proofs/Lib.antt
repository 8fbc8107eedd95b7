mod BehindLaws
mod DeclareLaws
mod MarksLaws
mod NarrowLaws
mod PathLaws
mod ResolvedLaws
mod StepLaws
