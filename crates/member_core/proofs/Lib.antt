pub mod OwnPosts
pub mod StageKinds
mod Comings
pub mod Saying
pub mod RowForms
pub mod RowLengths
mod Storing
pub mod Posting
pub mod Promised
mod Repeating
mod Results
pub mod Seeing
pub mod Shown
mod Belonging
mod Due
pub mod MadePosts
mod Submitting
mod Answering
pub mod Judging
pub mod Passing
pub mod Answered
mod BeingAsked
pub mod Handing
pub mod PassedStages
pub mod Delivering
pub mod Verdicts
mod Describing
pub mod Dispatch
mod Hearing
pub mod TurnSteps
mod Submitted
pub mod Beginning
pub mod Advancing
pub mod Changes
