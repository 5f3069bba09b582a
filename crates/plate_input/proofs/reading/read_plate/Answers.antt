use Rattle.std.proofs.Common.{◌≡◌, Err, ap, ◌∙◌, sym, subst}
use Rattle.std.specs.List.{All}
use Rattle.std.specs.Str.{IsUtf8}
use Rattle.std.proofs.lemmas.Result.{err_from_is_err_and}
use Rattle.cli_words.specs.Command.{item_names}
use Rattle.plate_input.specs.Inner.Gathering.{HasGathered, GatherRefusal}
use Rattle.plate_input.specs.Reads.{ReadsAll, ReadsBefore}
use Rattle.plate_input.proofs.Told.{gather_says, one_of, finished_says, finished_reads, finished_faults, finished_last, few_extruders, some_extruders, extruders_below_eight}
use Rattle.plate_input.proofs.reading.read_plate.Goals as goal

pub gather-requires : goal.gather-requires
gather-requires g c = subst (λ is. All IsUtf8 (item_names is)) (sym c.items.ensures) c.requires.utf8

pub finish-requires-clause-few : goal.finish-requires-clause-few
finish-requires-clause-few g c =
    let files = (g.Sh.Shelf.store c.args.shelf.now).files in
    few_extruders c.args.task.now files c.in_ok-gathered.gathered c.requires.task (subst (λ is. HasGathered is files c.in_ok-gathered.gathered) c.items.ensures c.in_ok-gathered.ensures.gathered)

pub finish-requires-clause-some : goal.finish-requires-clause-some
finish-requires-clause-some g c =
    let files = (g.Sh.Shelf.store c.args.shelf.now).files in
    some_extruders c.args.task.now files c.in_ok-gathered.gathered c.requires.task (subst (λ is. HasGathered is files c.in_ok-gathered.gathered) c.items.ensures c.in_ok-gathered.ensures.gathered)

pub finish-requires-clause-below_eight : goal.finish-requires-clause-below_eight
finish-requires-clause-below_eight g c =
    let files = (g.Sh.Shelf.store c.args.shelf.now).files in
    extruders_below_eight c.args.task.now files c.in_ok-gathered.gathered c.requires.task (subst (λ is. HasGathered is files c.in_ok-gathered.gathered) c.items.ensures c.in_ok-gathered.ensures.gathered)

pub returns-in_err-gathered : goal.returns-in_err-gathered
returns-in_err-gathered g c =
    let items = c.args.task.now.items in
    let before = g.Sh.Shelf.store c.args.shelf.now in
    let after = g.Sh.Shelf.store c.gather.new.shelf in
    let q = c.in_err-gathered.field-0.0 in
    let p = err_from_is_err_and c.from_residual.result c.from_residual.ensures.1 in
    let e : c.from_residual.result ≡ Err c.in_err-gathered.field-0.0 = p.1 ∙ ap Err p.2 in
    let says = gather_says items before after q (subst (λ is. GatherRefusal q is before after) c.items.ensures c.in_err-gathered.ensures.refused) in
    rw e (record {
      says = says;
      one = one_of items before after c.one_plate.ensures (Err q) says;
      reads = subst (λ is. ReadsBefore q is before after) c.items.ensures c.in_err-gathered.ensures.reads;
      files = c.in_err-gathered.ensures.files;
      faults = c.in_err-gathered.ensures.faults;
      last_failed = c.in_err-gathered.ensures.last_failed;
    })

pub returns-clause-says : goal.returns-clause-says
returns-clause-says g c =
    let before = g.Sh.Shelf.store c.args.shelf.now in
    let after = g.Sh.Shelf.store c.gather.new.shelf in
    let has = subst (λ is. HasGathered is before.files c.in_ok-gathered.gathered) c.items.ensures c.in_ok-gathered.ensures.gathered in
    finished_says c.args.task.now.items before after c.in_ok-gathered.gathered c.finish.result has c.finish.ensures.gives

pub returns-clause-one : goal.returns-clause-one
returns-clause-one g c =
    let before = g.Sh.Shelf.store c.args.shelf.now in
    let after = g.Sh.Shelf.store c.gather.new.shelf in
    let has = subst (λ is. HasGathered is before.files c.in_ok-gathered.gathered) c.items.ensures c.in_ok-gathered.ensures.gathered in
    one_of c.args.task.now.items before after c.one_plate.ensures c.finish.result (finished_says c.args.task.now.items before after c.in_ok-gathered.gathered c.finish.result has c.finish.ensures.gives)

pub returns-clause-reads : goal.returns-clause-reads
returns-clause-reads g c =
    let before = g.Sh.Shelf.store c.args.shelf.now in
    let after = g.Sh.Shelf.store c.gather.new.shelf in
    finished_reads c.args.task.now.items before after c.in_ok-gathered.gathered c.finish.result c.finish.ensures.gives (subst (λ is. ReadsAll is before after) c.items.ensures c.in_ok-gathered.ensures.reads)

pub returns-clause-faults : goal.returns-clause-faults
returns-clause-faults g c =
    let before = g.Sh.Shelf.store c.args.shelf.now in
    let after = g.Sh.Shelf.store c.gather.new.shelf in
    finished_faults before.faults after.faults c.in_ok-gathered.gathered c.finish.result c.finish.ensures.gives c.in_ok-gathered.ensures.faults

pub returns-clause-last_failed : goal.returns-clause-last_failed
returns-clause-last_failed g c =
    let before = g.Sh.Shelf.store c.args.shelf.now in
    let after = g.Sh.Shelf.store c.gather.new.shelf in
    finished_last before.last_failed after.last_failed c.in_ok-gathered.gathered c.finish.result c.finish.ensures.gives c.in_ok-gathered.ensures.last_failed
