pub mod Members
pub mod OptionLaws
pub mod RankLaws
pub mod RowLaws
pub mod TableLaws
