pub mod SampleSource
