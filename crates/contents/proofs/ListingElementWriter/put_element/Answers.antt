use Rattle.contents.proofs.ListLaws.{value-ready, value-inside, value-copied, paced-value}
use Rattle.traverse.proofs.CopyLaws.{on-pace}
use native.Mathlib.Omega.{arith}
use Rattle.contents.proofs.ListingElementWriter.put_element.Goals as goal

pub element_value-v-requires : goal.element_value-v-requires
element_value-v-requires c = record { kind_bound = c.requires.le_kind.1; readable_element = value-ready c.args.w.widths c.args.kind c.requires.ready }

pub overflow_add-offset : goal.overflow_add-offset
overflow_add-offset c = omega (arith, value-inside c.args.w.widths c.args.kind c.requires.ready c.element_value-v.ensures, c.requires.taken)

pub quad_word-requires : goal.quad_word-requires
quad_word-requires c = (omega arith, omega arith, omega (arith, value-inside c.args.w.widths c.args.kind c.requires.ready c.element_value-v.ensures, c.requires.taken), omega (arith, value-inside c.args.w.widths c.args.kind c.requires.ready c.element_value-v.ensures, c.requires.taken))

pub overflow_add-result : goal.overflow_add-result
overflow_add-result c = omega (arith, value-inside c.args.w.widths c.args.kind c.requires.ready c.element_value-v.ensures, c.requires.taken)

pub overflow_add-result-2 : goal.overflow_add-result-2
overflow_add-result-2 c = omega (arith, c.requires.ready.behind, c.requires.ready.inside, c.requires.ready.small)

pub returns : goal.returns
returns c =
    let copies = value-copied c.args.w.widths c.args.kind c.requires.ready c.element_value-v.ensures c.args.self.base c.quad_word.ensures c.store_word.ensures in
    record { copies = copies; pace = on-pace (paced-value c.args.self.base c.args.w.widths c.args.kind c.requires.le_kind.0) c.requires.ready copies }
