-- `parts::name::name_parts` meets its contract: cut at the edges of demand 0, the list leads up each part; then node by node is named (the
-- laws are in Naming).
use native.Mathlib.Omega.{arith}
use Rattle.parts.proofs.Naming.{asked_cut, cut_leads, names_next, names_all}
use Rattle.parts.proofs.name.name_parts.Goals as goal

pub cut_edges-requires : goal.cut_edges-requires
cut_edges-requires c = asked_cut c.requires.1

pub name_node-requires : goal.name_node-requires
name_node-requires c =
    let n = c.loop-v.invariant _ (cut_leads c.requires.1 c.cut_edges.ensures) in
    (_, record { leads = n.leads; node = omega (arith, c.loop-v-test.true, n.leads.long) })

pub loop-v-preserved : goal.loop-v-preserved
loop-v-preserved c y l =
    let n = c.loop-v.invariant y l in
    names_next n (c.name_node.ensures y record { leads = n.leads; node = omega (arith, c.loop-v-test.true, n.leads.long) })

pub returns : goal.returns
returns c y a =
    let n = c.loop-v.invariant y (cut_leads a c.cut_edges.ensures) in
    names_all n (omega (arith, c.loop-v-test.false, c.loop-v.auto.parts))
