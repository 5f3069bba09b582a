use Rattle.std.proofs.Common.{◌≡◌, ◌+◌, ◌<◌, ◌≤◌, Err, drop, length, arith, ap, ◌∙◌}
use Rattle.std.proofs.lemmas.Result.{err_from_is_err_and}
use Rattle.plate_input.proofs.Gathers.{gathering_at, utf8_at, utf8_here, utf8_rest, refused, reads_refused, faults_since, last_failed_since, goes_on, ends_here, reads_all, ended}
use Rattle.plate_input.proofs.gathered.gather.Goals as goal

pub take-requires : goal.take-requires
take-requires g c =
    let items = c.args.items.now in
    let i = c.loop-item.item-index in
    let x = c.item-item.result in
    let lt : c.loop-item.item-index < length c.args.items.now = omega (arith, c.loop-item-test.true) in
    utf8_here x (drop (i + 1) items) (utf8_at items i x lt c.item-item.is c.loop-item.invariant.utf8)

pub returns-in_err-take : goal.returns-in_err-take
returns-in_err-take g c =
    let items = c.args.items.now in
    let i = c.loop-item.item-index in
    let x = c.item-item.result in
    let q = c.in_err-take.field-0.0 in
    let kept = c.loop-item.gathered in
    let before = g.Sh.Shelf.store c.args.shelf.now in
    let now = g.Sh.Shelf.store c.loop-item.shelf in
    let next = g.Sh.Shelf.store c.take.new.shelf in
    let lt : c.loop-item.item-index < length c.args.items.now = omega (arith, c.loop-item-test.true) in
    let p = err_from_is_err_and c.from_residual.result c.from_residual.ensures.1 in
    let e : c.from_residual.result ≡ Err c.in_err-take.field-0.0 = p.1 ∙ ap Err p.2 in
    let so_far = gathering_at items i x before now kept lt c.item-item.is c.loop-item.invariant.gathering in
    let why = refused items (drop (i + 1) items) x before now next kept q so_far c.in_err-take.ensures.refused c.in_err-take.ensures.faults in
    rw e (record {
      gathered = tt;
      refused = why;
      reads = reads_refused items before next q why;
      files = c.in_err-take.ensures.files ∙ c.loop-item.invariant.gathering.read.files;
      faults = faults_since items (drop i items) before now next kept q c.loop-item.invariant.gathering c.in_err-take.ensures.faults;
      last_failed = last_failed_since items (drop i items) before now next kept q c.loop-item.invariant.gathering c.in_err-take.ensures.last_failed;
    })

pub loop-item-preserved : goal.loop-item-preserved
loop-item-preserved g c =
    let items = c.args.items.now in
    let i = c.loop-item.item-index in
    let x = c.item-item.result in
    let before = g.Sh.Shelf.store c.args.shelf.now in
    let now = g.Sh.Shelf.store c.loop-item.shelf in
    let next = g.Sh.Shelf.store c.take.new.shelf in
    let lt : c.loop-item.item-index < length c.args.items.now = omega (arith, c.loop-item-test.true) in
    record {
      gathering = goes_on items (drop (i + 1) items) x before now next c.loop-item.gathered c.take.new.gathered (gathering_at items i x before now c.loop-item.gathered lt c.item-item.is c.loop-item.invariant.gathering) c.in_ok-take.ensures.took c.in_ok-take.ensures.files c.in_ok-take.ensures.faults c.in_ok-take.ensures.last_failed;
      utf8 = utf8_rest x (drop (i + 1) items) (utf8_at items i x lt c.item-item.is c.loop-item.invariant.utf8);
    }

pub returns : goal.returns
returns g c =
    let items = c.args.items.now in
    let before = g.Sh.Shelf.store c.args.shelf.now in
    let now = g.Sh.Shelf.store c.loop-item.shelf in
    let le : length c.args.items.now ≤ c.loop-item.item-index = omega (arith, c.loop-item-test.false) in
    let end = ends_here items c.loop-item.item-index before now c.loop-item.gathered le c.loop-item.invariant.gathering in
    record {
      gathered = ended items before now c.loop-item.gathered end;
      refused = tt;
      reads = reads_all items before now c.loop-item.gathered end;
      files = end.read.files;
      faults = end.read.faults;
      last_failed = end.read.last_failed;
    }
