use Rattle.std.proofs.Common.{◌≡◌, ◌+◌, ◌≤◌, drop}
use Rattle.std.specs.List.{sum_by}
use Rattle.preheat_plan.specs.declared.uses.Use.{Use}
use Rattle.preheat_plan.specs.Past.{rules_of}
use Rattle.preheat_plan.specs.Held.{used_all}
use Rattle.plan_store.specs.Inner.Sound.{held_of, end_of_held, IsSound}
use Rattle.plan_store.proofs.placing.go_all.Given as goal

abbrev pub invariant-loop-u : goal.invariant-loop-u
invariant-loop-u l = record {
  sound : IsSound l.store l.now;
  rest : used_all (rules_of l.job) (drop l.u-index l.uses) (held_of l.store l.now) ≡ used_all (rules_of l.job) l.uses (held_of l.initial.store l.initial.now);
  next : l.now.next + sum_by (λ (u : Use). u.count) (drop l.u-index l.uses) ≡ l.initial.now.next + sum_by (λ (u : Use). u.count) l.uses;
  end : end_of_held l.store l.now ≡ end_of_held l.initial.store l.initial.now;
  taken : l.now.taken ≡ l.initial.now.taken;
}
