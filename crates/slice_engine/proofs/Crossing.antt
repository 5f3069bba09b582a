-- A planner and a feeder say the same to every thread.
use denote.RattleType.{RattleType}
use denote.Ref.{NamedLft}
use denote.Param.Send.{IsSend, IsSync, part_keyless, sendable}
use Rattle.std.specs.contracts.snapshot.Snapshot as snapshot
use Rattle.plan_types.proofs.jobs.Job.TheSendSync.{the_sync as job_sync}
use Rattle.plan_buffer.proofs.buffer.PlanBuffer.TheSendSync.{the_send as buffer_send}
use Rattle.print_totals.proofs.spent.Spent.TheSendSync.{the_send as spent_send}
use Rattle.slice_engine.specs.contracts.ringing.Plans as plans
use Rattle.slice_engine.specs.contracts.ringing.Feeder as feeder

-- a snapshot owns nothing
snapshot_send : (R : RattleType) → IsSend (snapshot.the_row R)
snapshot_send R = record { owned = λ d vs. ((λ vss. (tt, ((λ uss. (tt, tt)), tt))), tt); leaving = λ k f vs. tt }

snapshot_sync : (R : RattleType) → IsSync (snapshot.the_row R)
snapshot_sync R = record { shared = λ d b o κ q. part_keyless (snapshot.the_row R) (snapshot_send R) q d b o }

pub plans_sync : (κ : NamedLft) (R : RattleType) → IsSync (plans.the_row κ R)
plans_sync κ R = search (sendable, job_sync, snapshot_sync) depth 20

pub feeder_send : (κ : NamedLft) (R : RattleType) (T : _) → IsSend R → IsSend (feeder.the_row κ R T)
feeder_send κ R T s = search (sendable, job_sync, buffer_send, spent_send) depth 20
