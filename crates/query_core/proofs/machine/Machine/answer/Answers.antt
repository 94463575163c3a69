use Rattle.std.proofs.Common.{refl}
use Rattle.query_core.specs.declared.machine.Machine.TheVariants as machines
use Rattle.query_core.proofs.Endings.{plain_ends, threshold_ends, restricted_ends}
use Rattle.query_core.proofs.Halting.{threshold_makes}
use Rattle.query_core.proofs.machine.Machine.answer.Goals as goal

pub returns-in-Ta-clause-items : goal.returns-in-Ta-clause-items
returns-in-Ta-clause-items c =
    (threshold_ends c.args.self c.in-Ta.machine c.answer.result c.in-Ta.is c.requires c.answer.ensures.run c.answer.ensures.items c.answer.ensures.transcript).items

pub returns-in-Ta-clause-near : goal.returns-in-Ta-clause-near
returns-in-Ta-clause-near c =
    (threshold_ends c.args.self c.in-Ta.machine c.answer.result c.in-Ta.is c.requires c.answer.ensures.run c.answer.ensures.items c.answer.ensures.transcript).near

pub returns-in-Ta-clause-bounds : goal.returns-in-Ta-clause-bounds
returns-in-Ta-clause-bounds c =
    (threshold_ends c.args.self c.in-Ta.machine c.answer.result c.in-Ta.is c.requires c.answer.ensures.run c.answer.ensures.items c.answer.ensures.transcript).bounds

pub returns-in-Ta-clause-run : goal.returns-in-Ta-clause-run
returns-in-Ta-clause-run c = threshold_makes c.args.self c.in-Ta.machine c.in-Ta.is c.answer.ensures.run

pub returns-in-Nra-clause-items : goal.returns-in-Nra-clause-items
returns-in-Nra-clause-items c =
    (plain_ends c.args.self (machines.Nra c.in-Nra.machine) c.answer-in-Nra.result (λ V m A Y. refl) c.in-Nra.is c.requires c.answer-in-Nra.ensures.run c.answer-in-Nra.ensures.items c.answer-in-Nra.ensures.transcript).items

pub returns-in-Nra-clause-near : goal.returns-in-Nra-clause-near
returns-in-Nra-clause-near c =
    (plain_ends c.args.self (machines.Nra c.in-Nra.machine) c.answer-in-Nra.result (λ V m A Y. refl) c.in-Nra.is c.requires c.answer-in-Nra.ensures.run c.answer-in-Nra.ensures.items c.answer-in-Nra.ensures.transcript).near

pub returns-in-Nra-clause-bounds : goal.returns-in-Nra-clause-bounds
returns-in-Nra-clause-bounds c =
    (plain_ends c.args.self (machines.Nra c.in-Nra.machine) c.answer-in-Nra.result (λ V m A Y. refl) c.in-Nra.is c.requires c.answer-in-Nra.ensures.run c.answer-in-Nra.ensures.items c.answer-in-Nra.ensures.transcript).bounds

pub returns-in-Ca-clause-items : goal.returns-in-Ca-clause-items
returns-in-Ca-clause-items c =
    (plain_ends c.args.self (machines.Ca c.in-Ca.machine) c.answer-in-Ca.result (λ V m A Y. refl) c.in-Ca.is c.requires c.answer-in-Ca.ensures.run c.answer-in-Ca.ensures.items c.answer-in-Ca.ensures.transcript).items

pub returns-in-Ca-clause-near : goal.returns-in-Ca-clause-near
returns-in-Ca-clause-near c =
    (plain_ends c.args.self (machines.Ca c.in-Ca.machine) c.answer-in-Ca.result (λ V m A Y. refl) c.in-Ca.is c.requires c.answer-in-Ca.ensures.run c.answer-in-Ca.ensures.items c.answer-in-Ca.ensures.transcript).near

pub returns-in-Ca-clause-bounds : goal.returns-in-Ca-clause-bounds
returns-in-Ca-clause-bounds c =
    (plain_ends c.args.self (machines.Ca c.in-Ca.machine) c.answer-in-Ca.result (λ V m A Y. refl) c.in-Ca.is c.requires c.answer-in-Ca.ensures.run c.answer-in-Ca.ensures.items c.answer-in-Ca.ensures.transcript).bounds

pub returns-in-Fa-clause-items : goal.returns-in-Fa-clause-items
returns-in-Fa-clause-items c =
    (plain_ends c.args.self (machines.Fa c.in-Fa.machine) c.answer-in-Fa.result (λ V m A Y. refl) c.in-Fa.is c.requires c.answer-in-Fa.ensures.run c.answer-in-Fa.ensures.items c.answer-in-Fa.ensures.transcript).items

pub returns-in-Fa-clause-near : goal.returns-in-Fa-clause-near
returns-in-Fa-clause-near c =
    (plain_ends c.args.self (machines.Fa c.in-Fa.machine) c.answer-in-Fa.result (λ V m A Y. refl) c.in-Fa.is c.requires c.answer-in-Fa.ensures.run c.answer-in-Fa.ensures.items c.answer-in-Fa.ensures.transcript).near

pub returns-in-Fa-clause-bounds : goal.returns-in-Fa-clause-bounds
returns-in-Fa-clause-bounds c =
    (plain_ends c.args.self (machines.Fa c.in-Fa.machine) c.answer-in-Fa.result (λ V m A Y. refl) c.in-Fa.is c.requires c.answer-in-Fa.ensures.run c.answer-in-Fa.ensures.items c.answer-in-Fa.ensures.transcript).bounds

pub returns-in-Taz-clause-items : goal.returns-in-Taz-clause-items
returns-in-Taz-clause-items c =
    (restricted_ends c.args.self c.in-Taz.machine c.answer-in-Taz.result c.in-Taz.is c.requires c.answer-in-Taz.ensures.run c.answer-in-Taz.ensures.items c.answer-in-Taz.ensures.transcript).items

pub returns-in-Taz-clause-near : goal.returns-in-Taz-clause-near
returns-in-Taz-clause-near c =
    (restricted_ends c.args.self c.in-Taz.machine c.answer-in-Taz.result c.in-Taz.is c.requires c.answer-in-Taz.ensures.run c.answer-in-Taz.ensures.items c.answer-in-Taz.ensures.transcript).near

pub returns-in-Taz-clause-bounds : goal.returns-in-Taz-clause-bounds
returns-in-Taz-clause-bounds c =
    (restricted_ends c.args.self c.in-Taz.machine c.answer-in-Taz.result c.in-Taz.is c.requires c.answer-in-Taz.ensures.run c.answer-in-Taz.ensures.items c.answer-in-Taz.ensures.transcript).bounds
