pub mod LoginLaws
