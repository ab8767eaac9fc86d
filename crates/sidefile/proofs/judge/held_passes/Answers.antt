use Rattle.std.proofs.Common.{◌≡◌, true, length, rules, tests}
use Rattle.units.specs.Tests.{passes}
use Rattle.sidefile.specs.Judge.{header_tests, holds}
use Rattle.sidefile.specs.inner.Passed.{indexed_held}
use Rattle.sidefile.proofs.judge.held_passes.Goals as goal

pub index_passes-requires : goal.index_passes-requires
index_passes-requires c =
    let s = c.args.s.now in
    let e : passes (header_tests (holds (length s)) s) ≡ true = search (rules, tests) in
    indexed_held s e
