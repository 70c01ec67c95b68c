-- `judge_environment::keeps_env_idx` meets its contract.
use Rattle.algebra.specs.Expr.{eval}
use Rattle.rulebook.specs.Rule.{holds, keeps_sentence, keeps_all}
use Rattle.rulebook.specs.Rulebook.{rules_E}
use Rattle.judge_columns.proofs.Rules.{bools}
use Rattle.judge_environment.proofs.keeps_env_idx.Goals as goal

pub returns : goal.returns
unfolding rules_E keeps_all keeps_sentence holds eval
returns c = simp bools cc
