pub mod Laws
pub mod MadeCategory
pub mod MadeProgram
pub mod MadeSchedule
pub mod Steps
