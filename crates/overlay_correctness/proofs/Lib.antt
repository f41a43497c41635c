pub mod FollowLaws
pub mod FileLaws
pub mod StubLaws
pub mod OpenedLaws
pub mod OverlayLaws
