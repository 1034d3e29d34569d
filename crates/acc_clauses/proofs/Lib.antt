pub mod Founds
pub mod Overlaid
pub mod QueuesAfter
pub mod Laws
pub mod Spanned
pub mod Drafted
pub mod Outlining
pub mod Turns
pub mod Pointed
pub mod Asking
pub mod Events
mod Freed
mod Runs
mod Copying
pub mod NextAttached
mod Moving
pub mod Marked
mod Changes
mod Putting
mod Steps
mod Giving
mod Bearing
mod Ending
mod Sweeping
pub mod Legal
mod Standing
mod Making
mod Emptied
mod Emptying
mod Finished
mod Reserved
mod Ready
mod Aiming
mod Doing
mod Remaining
mod Holding
mod Entering
pub mod Beside
mod AfterPlan
mod Committing
pub mod AimsCounted
pub mod AimsPlaced
pub mod AimsFound
mod AimsWritten
pub mod AimsValued
pub mod AimsJudged
pub mod AimsTargeted
pub mod Lends
pub mod Crossing
mod Copied
mod Alike
