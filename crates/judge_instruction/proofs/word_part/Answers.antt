-- `judge_instruction::word_part` meets its contract.
use Rattle.std.proofs.Common.{◌≡◌, ◌+◌, ◌-◌, [], take, drop, rules, tests, arith, ◌∙◌}
use Rattle.std.proofs.lemmas.Iterator.{YieldsList-from_slice, YieldsList-from_range, YieldsList-from_zip}
use Rattle.std.proofs.lemmas.Iterator.Consumers.{fold_from_yields_List}
use Rattle.algebra.specs.Expr.{eval}
use Rattle.residue.specs.Residues.{residues}
use Rattle.table.specs.Cells.{cells}
use Rattle.rulebook.specs.Rulebook.{word_part}
use Rattle.judge_instruction.proofs.Parts.{with_term, word_folded, word_below}
use Rattle.judge_instruction.proofs.word_part.Goals as goal

-- what the fold gives
folded : (c : goal.After-fold-word) → c.fold-word.result ≡ eval residues (cells [] c.args.lv.now [] 0 0) (word_part c.args.s c.args.shift)
folded c =
    fold_from_yields_List _ (with_term (cells [] c.args.lv.now [] 0 0) c.args.s c.args.shift) 0 _ c.fold-word.ensures.ran
    (YieldsList-from_zip (YieldsList-from_slice (take (c.args.s + 10 - c.args.s) (drop c.args.s c.args.lv.now)) cc) (YieldsList-from_range c.args.shift (c.args.shift + 10) 10 (cc) (omega arith)))
    (λ a x b q k. search (rules, tests))
    ∙ word_folded c.args.lv.now c.args.s c.args.shift (omega (arith, c.words-columns.ensures.size)) c.requires.places

pub new-requires : goal.new-requires
new-requires c = rw (folded c) (word_below c.args.lv.now c.args.s c.args.shift (omega (arith, c.words-columns.ensures.size)) c.requires.places)

pub returns : goal.returns
returns c = c.new.ensures ∙ folded c.before
