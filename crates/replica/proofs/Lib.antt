pub mod StartedLaws
pub mod StageLaws
pub mod StepLaws
pub mod OrderLaws
pub mod Theorems
pub mod Sizes
pub mod StageCode
