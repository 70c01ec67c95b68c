-- `judge_kinds::selected::kind` meets its contract.
use Rattle.std.proofs.Common.{take, drop, rules, tests, eqb, ap, ◌∙◌}
use Rattle.std.proofs.lemmas.Iterator.{YieldsList-from_slice, YieldsList-from_zip}
use Rattle.std.proofs.lemmas.Iterator.Search.{find_from_yields_List}
use Rattle.std.specs.Option.{option_map}
use Rattle.rulebook.specs.Kind.{kind_of}
use Rattle.judge_kinds.specs.Kind.{number_of_kind}
use Rattle.judge_kinds.proofs.Cases.{all, mapped, kind_found}
use Rattle.judge_kinds.proofs.selected.kind.Goals as goal

pub returns : goal.returns
unfolding kind_of
returns c =
    ap number_of_kind
    (mapped (λ p. (p.0.now, p.1.now)) _ _ c.map.ensures.cases (λ x k h. search (rules, tests))
    ∙ ap (option_map (λ e. e.0))
    (find_from_yields_List (λ e. eqb e.1 1) c.find.new.self _ _ c.find.ensures.ran
    (YieldsList-from_zip (YieldsList-from_slice all cc) (YieldsList-from_slice (take 19 (drop 66 c.args.lv.now)) cc))
    (λ x b q k. search (rules, tests))))
    ∙ kind_found c.args.lv.now c.words-columns.ensures.size
