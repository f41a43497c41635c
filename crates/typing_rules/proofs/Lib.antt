pub mod JudgementLaws
pub mod PlanLaws
pub mod JoinLaws
pub mod OperatorLaws
pub mod SelectorLaws
pub mod AssignmentLaws
