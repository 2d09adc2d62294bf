-- Every moment of a guarded change from a fit head is fit: proofs/changes/Change.antt.
pub mod Rails
pub mod WholeMegahertz
pub mod View
pub mod Progress
pub mod Supply
pub mod Core
pub mod Change
