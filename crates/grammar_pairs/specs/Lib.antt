pub mod Plain
pub mod Feasible
pub mod Tables
pub mod Fitting
pub mod Mapped
pub mod Texts
pub mod Laws
