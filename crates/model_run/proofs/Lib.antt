pub mod Targets
pub mod Lists
pub mod Steps
pub mod Eras
pub mod Telling
pub mod Plain
pub mod Needed
pub mod Chain
pub mod TosserPremises
pub mod StandingRuns
pub mod Bases
pub mod Areas
pub mod Histories
pub mod Scanned
pub mod StandingScans
pub mod StandingTosses
pub mod Copies
pub mod WholeRuns
pub mod EachSystem
pub mod LaterSystems
pub mod Renewal
pub mod EventKinds
pub mod AnyState
pub mod Stays
pub mod Changes
pub mod States
pub mod NewPostings
pub mod Repair
pub mod Repairs
pub mod Saying
pub mod BesideRepairs
pub mod Reaching
pub mod TosserLaws
pub mod ScanPackets
pub mod ExportLists
pub mod SentAgain
pub mod Origins
pub mod Filings
pub mod SentSoFar
pub mod HarmLists
pub mod HarmSteps
mod Resting
mod Spreads
mod Branches
pub mod OneMessage
pub mod Places
pub mod Holders
mod Faults
pub mod NetExamples
mod TidyExamples
mod VainExamples
mod RepairExamples
pub mod Flows
pub mod OneSided
pub mod Apart
