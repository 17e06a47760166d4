-- Laws.
pub mod PrefixLaws
pub mod CacheLaws
pub mod FoundLaws
pub mod CalledLaws
pub mod RestLaws
pub mod HintLaws
pub mod UseLaws
pub mod AnswerLaws
pub mod NamedLaws
pub mod EventLaws
pub mod PutLaws
pub mod BackLaws
pub mod CallLaws
pub mod StandLaws
pub mod StoreLaws
pub mod FailureLaws
