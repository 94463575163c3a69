-- The least of lows, and what the factor of an answer is.
pub mod LeastLows
pub mod Factors
pub mod WritingLaws
pub mod NumberPlaces
pub mod FigureLaws
-- What each line says, what lines spell, and that what is written is read back.
pub mod PartLaws
pub mod LineLaws
pub mod JudgingLaws
pub mod VersionLines
pub mod SpellLaws
pub mod VersionLaws
pub mod QueryLaws
pub mod ExampleLaws
pub mod CertificateLaws
pub mod CountLaws
pub mod TextLaws
pub mod CertifiedLaws
