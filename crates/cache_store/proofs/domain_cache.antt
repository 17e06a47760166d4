-- Laws of the domain cache after a DC reply and after a domain reply, and of the request for domains.
pub mod DcLaws
pub mod OnceLaws
pub mod GatherLaws
pub mod NamesLaws
pub mod ReadLaws
pub mod RequestLaws
pub mod Examples
