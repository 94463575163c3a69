pub mod PageLaws
pub mod EndLaws
pub mod ReplyBack
pub mod BodyLaws
-- Lemmas on links that are served one after another.
pub mod ServingLaws
-- Of which list each link is.
pub mod EachLaws
