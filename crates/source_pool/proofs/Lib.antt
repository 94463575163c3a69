pub mod SaidLaws
pub mod TurnLaws
pub mod SaidMeans
pub mod WindowLaws
pub mod RememberLaws
mod Fronts
mod OpenLaws
mod Walks
mod CloseLaws
mod SeenLaws
mod HoldLaws
pub mod AheadLaws
mod PassLaws
