pub mod EitherBase
