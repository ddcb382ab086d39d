-- The demands of the mission, as statements over the public promises.
pub mod DemandTwo
pub mod DemandThree
