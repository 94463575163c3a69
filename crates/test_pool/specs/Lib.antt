-- What holds of a reader of a pool of one source, and what a run of one query over two sources rests on.
pub mod Reading
pub mod Running
