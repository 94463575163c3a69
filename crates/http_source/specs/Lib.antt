-- What is asked for, what the links of a dial take and bring, and what a source over a dial is.
pub mod Requests
pub mod Exchanges
pub mod Replies
pub mod Answers
pub mod Asking
pub mod Served
pub mod ReadingBack
