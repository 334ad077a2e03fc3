-- What follows from the definitions: nobody has to believe it.
pub mod NumberLaws
pub mod GapPlanLaws
pub mod DiskLaws
pub mod WordLaws
