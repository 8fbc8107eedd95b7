pub mod AdvanceLaws
pub mod BehindLaws
mod CountLaws
pub mod EntryLaws
pub mod EventLaws
pub mod FormLaws
pub mod GoingLaws
pub mod GrowLaws
pub mod GuestLaws
pub mod JoinedLaws
pub mod LeavesLaws
pub mod LoopLaws
pub mod NameLaws
pub mod ReachLaws
pub mod ReplyLaws
mod RoomLaws
pub mod SightLaws
pub mod WriteLaws
