pub mod Centres
pub mod EmptyCentres
pub mod Insertions
