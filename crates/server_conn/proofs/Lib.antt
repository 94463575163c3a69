-- Lemmas on one connection of a query server.
mod ListLaws
mod PassLaws
mod LineLaws
mod Proving
mod EndLaws
mod AnswerLaws
mod FailLaws
