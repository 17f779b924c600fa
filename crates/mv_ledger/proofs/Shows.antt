-- What a show and an audit reply; mv_lines has the proofs of their lines.
pub mod Reports
