pub mod AgainLaws
pub mod FileLaws
pub mod FormatLaws
pub mod RecordLaws
pub mod SignatureLaws
pub mod TableLaws
pub mod WholeFileLaws
pub mod WritingLaws
