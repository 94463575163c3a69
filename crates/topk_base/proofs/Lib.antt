pub mod CutLaws
pub mod LineLaws
pub mod NumberLaws
pub mod NameLaws
pub mod FrontLaws
