-- Plans added up one after another.
use Rattle.std.specs.Prelude.{ℕ, ◌≡◌, List, length, map}
use Rattle.slice_base.specs.declared.points.Pt.{Pt}
use Rattle.plan_types.specs.Jobs.{JobValue}
use Rattle.plan_types.specs.Leads.{origin, end_of_layers}
use Rattle.plan_types.specs.Orders.{all_extruders}
use Rattle.plan_types.specs.Plans.{LayerPlanValue, time_in}
use Rattle.print_totals.specs.declared.amounts.Amounts.{Amounts}
use Rattle.print_totals.specs.Totals.{time_of, volume_by, volume_on}

-- what the paths of a layer take by themselves: their time, and the volume of each extruder
abbrev pub amounts_of : LayerPlanValue → Amounts
amounts_of l = record { time = time_in l.plans; volumes = map (λ e. volume_by e l.plans) all_extruders }

-- the sums of some layers: how many they are, where the print stands behind them, their time, and the volume of each
-- extruder
pub record SpentValue : Type 0 where
  pub plans : ℕ
  pub end : Pt
  pub time : ℕ
  pub volumes : List ℕ

-- these are the sums of these layers
pub record HasSpent (job : JobValue) (ls : List LayerPlanValue) (spent : SpentValue) : Type 0 where
  pub plans : spent.plans ≡ length ls
  pub end : spent.end ≡ end_of_layers origin ls
  pub time : spent.time ≡ time_of job ls
  pub volumes : spent.volumes ≡ map (λ e. volume_on e ls) all_extruders
