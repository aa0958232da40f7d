pub mod Beginning
pub mod Finished
pub mod NoneRun
pub mod SettingLaws
