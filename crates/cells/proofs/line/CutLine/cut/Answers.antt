use Rattle.std.proofs.Common.{◌≡◌, ◌+◌, length, drop, arith, rules, tests, length-drop}
use Rattle.cells.specs.Parts.{cells}
use Rattle.cells.proofs.Rejoined.{cells_are_so}
use Rattle.cells.proofs.Starts.{start_first, start_more, counted_more, counted_all, cells_few}
use Rattle.std.proofs.lemmas.List.{length-replicate}
use Rattle.std.proofs.lemmas.Grind.{common_steps}
use Rattle.cells.proofs.line.CutLine.cut.Goals as goal

pub loop-start-init : goal.loop-start-init
loop-start-init g c = (length-replicate _ _, start_first c.args.bytes.now c.args.from, λ k l. absurd (omega arith), omega arith, omega arith)

pub loop-start-preserved : goal.loop-start-preserved
loop-start-preserved g c =
    let inv = c.loop-start.invariant in (
      search rules,
      start_more c.args.bytes.now c.args.from c.loop-start.start-index _ _ inv.1 (search rules),
      λ k l. grind (arith, common_steps, inv.1, inv.2 k),
      grind (arith, tests, c.from-count.ensures, inv.3),
      counted_more c.args.bytes.now _ _ _ _ _ inv.4 (search rules) (search rules),
    )

-- all the cells of the line
all_counted : (g : _) (c : goal.After-map_or-more g) → c.loop-start.count + c.map_or-more.result ≡ length (cells (drop c.args.from c.args.bytes.now))
all_counted g c = counted_all c.args.bytes.now _ _ _ _ c.loop-start.invariant.4 (search rules)

pub overflow_add-result : goal.overflow_add-result
overflow_add-result g c = omega (arith, c.well_formed, all_counted g c, cells_few (drop c.args.from c.args.bytes.now), length-drop c.args.from c.args.bytes.now)

pub invariant_of-result-clause-counted : goal.invariant_of-result-clause-counted
invariant_of-result-clause-counted g c = all_counted g c

pub returns-clause-so : goal.returns-clause-so
returns-clause-so g c = cells_are_so
