pub mod Cuts
pub mod Images
pub mod ImageLaws
pub mod Lending
pub mod Loans
pub mod Parts
pub mod Slices
pub mod Taken
