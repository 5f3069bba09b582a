-- Items that were taken one after another.
use Rattle.std.proofs.Common.{ℕ, suc, ◌≡◌, ◌+◌, ◌<◌, ◌≤◌, List, [], ◌∷◌, ◌++◌, length, inl, inr, Option, Some, None, Result, Ok, Err, arith, refl, sym, ap, ◌∙◌, subst, append_assoc, length-append, add-one, get_or, drop}
use Rattle.std.proofs.Math.Seq.{drop-cons}
use Rattle.std.proofs.lemmas.List.{drop_all}
use Rattle.std.specs.List.{All}
use Rattle.std.specs.Str.{IsUtf8}
use Rattle.std.proofs.lemmas.List.{append-nil}
use Rattle.std.proofs.lemmas.List.Elements.{All-push, All-nil, All-cons, All-head, All-tail}
use Rattle.slice_base.specs.Causes.{counted, counted_by}
use Rattle.settings_core.specs.declared.pairs.Pair.{Pair}
use Rattle.settings_core.specs.File.{file_pairs}
use Rattle.outside.specs.Files.{Files, IsFile, IsTooLong}
use Rattle.outside.specs.Store.{Store}
use Rattle.cli_words.specs.declared.command.Item.{Item}
use Rattle.cli_words.specs.declared.command.Item.TheVariants as item
use Rattle.cli_words.specs.Command.{item_names, item_extruders}
use Rattle.plate_input.specs.declared.faults.PlateFault.{PlateFault}
use Rattle.plate_input.specs.declared.faults.PlateFault.TheVariants as fault
use Rattle.plate_input.specs.declared.files.TheConstants.{MOST_BYTES}
use Rattle.plate_input.specs.declared.gathered.Gathered.{Gathered}
use Rattle.plate_input.specs.Reading.{AreFiles, in_front, file_in_front, pairs_of, mesh_bytes}
use Rattle.plate_input.specs.Reads.{EndsAt, ReadsSome, ReadsAll, ReadsBefore, refused_faults, refused_last_failed}
use Rattle.plate_input.specs.Inner.Gathering.{IsRead, ReadsOneAtMost, FileRefusal, first_name, with_pairs, with_settings, with_mesh, Took, Refused, outcome, HasGathered, GatherRefusal}

abbrev Names : Type 0
Names = List (List ℕ)

-- pairs that were kept, and what comes behind them
abbrev after : List Pair → Option (List ℕ) → Result (List Pair) (List ℕ) → Result (List Pair) (List ℕ)
after ps None r = in_front ps r
after ps (Some name) r = Err name

in_front-more : (ps qs : List Pair) (r : Result (List Pair) (List ℕ)) → in_front ps (in_front qs r) ≡ in_front (ps ++ qs) r
in_front-more ps qs (Ok rs) = ap Ok (sym (append_assoc ps qs rs))
in_front-more ps qs (Err name) = refl

after-pairs : (ps qs : List Pair) (o : Option (List ℕ)) (r : Result (List Pair) (List ℕ)) → after ps o (in_front qs r) ≡ after (ps ++ qs) o r
after-pairs ps qs None r = in_front-more ps qs r
after-pairs ps qs (Some name) r = refl

after-none : (ps : List Pair) (o : Option (List ℕ)) (name : List ℕ) (r : Result (List Pair) (List ℕ)) → after ps o (Err name) ≡ after ps (first_name o name) r
after-none ps None name r = refl
after-none ps (Some first) name r = refl

after-begun : (r : Result (List Pair) (List ℕ)) → after [] None r ≡ r
after-begun (Ok ps) = refl
after-begun (Err name) = refl

after-end : (ps : List Pair) (o : Option (List ℕ)) → after ps o (Ok []) ≡ outcome ps o
after-end ps None = ap Ok (append-nil ps)
after-end ps (Some name) = refl

-- what is kept of items whose files were read, with the rest still to be taken
pub record KeptSoFar (items rest : List Item) (contents : Names) (g : Gathered) : Type 0 where
  pub meshes : (ds : Names) → mesh_bytes items (contents ++ ds) ≡ g.meshes ++ mesh_bytes rest ds
  pub pairs : (ds : Names) → pairs_of items (contents ++ ds) ≡ after g.pairs g.not_json (pairs_of rest ds)
  pub extruders : item_extruders items ≡ g.extruders ++ item_extruders rest
  pub as_many : length g.meshes ≡ length g.extruders
  pub short : All (λ bytes. length bytes ≤ MOST_BYTES) g.meshes

-- files that were read, with the names that are left
pub record ReadSoFar (items : List Item) (left : Names) (before now : Store) (front contents : Names) : Type 0 where
  pub names : item_names items ≡ front ++ left
  pub are : AreFiles before.files front contents
  pub files : now.files ≡ before.files
  pub reads : now.reads ≡ counted_by (length front) before.reads
  pub faults : now.faults ≡ before.faults
  pub last_failed : now.last_failed ≡ before.last_failed

pub record Gathering (items rest : List Item) (before now : Store) (g : Gathered) : Type 0 where
  pub front : Names
  pub contents : Names
  pub read : ReadSoFar items (item_names rest) before now front contents
  pub kept : KeptSoFar items rest contents g

kept_begun : (items : List Item) → KeptSoFar items items [] (record { pairs = []; not_json = None; extruders = []; meshes = [] })
kept_begun items = record {
  meshes = λ ds. refl;
  pairs = λ ds. sym (after-begun (pairs_of items ds));
  extruders = refl;
  as_many = refl;
  short = All-nil (λ bytes. length bytes ≤ MOST_BYTES);
}

read_begun : (items : List Item) (s : Store) → ReadSoFar items (item_names items) s s [] []
read_begun items s = record { names = refl; are = tt; files = refl; reads = refl; faults = refl; last_failed = refl }

begun : (items : List Item) (s : Store) → Gathering items items s s (record { pairs = []; not_json = None; extruders = []; meshes = [] })
begun items s = record { front = []; contents = []; read = read_begun items s; kept = kept_begun items }

-- one more item is kept
kept_pair : (items rest : List Item) (contents : Names) (g : Gathered) (p : Pair) → KeptSoFar items (item.Pair p ∷ rest) contents g → KeptSoFar items rest contents (with_pairs (p ∷ []) g)
kept_pair items rest contents g p k = record {
  meshes = k.meshes;
  pairs = λ ds. k.pairs ds ∙ after-pairs g.pairs (p ∷ []) g.not_json (pairs_of rest ds);
  extruders = k.extruders;
  as_many = k.as_many;
  short = k.short;
}

kept_settings : (items rest : List Item) (contents : Names) (g : Gathered) (name bytes : List ℕ) (o : Option (List Pair)) → file_pairs bytes ≡ o → KeptSoFar items (item.Settings name ∷ rest) contents g → KeptSoFar items rest (contents ++ bytes ∷ []) (with_settings name o g)
kept_settings items rest contents g name bytes (Some ps) e k = record {
  meshes = λ ds. ap (mesh_bytes items) (append_assoc contents (bytes ∷ []) ds) ∙ k.meshes (bytes ∷ ds);
  pairs = λ ds. ap (pairs_of items) (append_assoc contents (bytes ∷ []) ds) ∙ (k.pairs (bytes ∷ ds) ∙ (ap (λ x. after g.pairs g.not_json (file_in_front name x (pairs_of rest ds))) e ∙ after-pairs g.pairs ps g.not_json (pairs_of rest ds)));
  extruders = k.extruders;
  as_many = k.as_many;
  short = k.short;
}
kept_settings items rest contents g name bytes None e k = record {
  meshes = λ ds. ap (mesh_bytes items) (append_assoc contents (bytes ∷ []) ds) ∙ k.meshes (bytes ∷ ds);
  pairs = λ ds. ap (pairs_of items) (append_assoc contents (bytes ∷ []) ds) ∙ (k.pairs (bytes ∷ ds) ∙ (ap (λ x. after g.pairs g.not_json (file_in_front name x (pairs_of rest ds))) e ∙ after-none g.pairs g.not_json name (pairs_of rest ds)));
  extruders = k.extruders;
  as_many = k.as_many;
  short = k.short;
}

kept_mesh : (items rest : List Item) (contents : Names) (g : Gathered) (name bytes : List ℕ) (e : ℕ) → length bytes ≤ MOST_BYTES → KeptSoFar items (item.Mesh name e ∷ rest) contents g → KeptSoFar items rest (contents ++ bytes ∷ []) (with_mesh e bytes g)
kept_mesh items rest contents g name bytes e short k = record {
  meshes = λ ds. ap (mesh_bytes items) (append_assoc contents (bytes ∷ []) ds) ∙ (k.meshes (bytes ∷ ds) ∙ sym (append_assoc g.meshes (bytes ∷ []) (mesh_bytes rest ds)));
  pairs = λ ds. ap (pairs_of items) (append_assoc contents (bytes ∷ []) ds) ∙ k.pairs (bytes ∷ ds);
  extruders = k.extruders ∙ sym (append_assoc g.extruders (e ∷ []) (item_extruders rest));
  as_many = omega (arith, k.as_many, length-append g.meshes (bytes ∷ []), length-append g.extruders (e ∷ []));
  short = All-push (λ bs. length bs ≤ MOST_BYTES) g.meshes bytes k.short short;
}

-- one more file was read
are_more : (files : Option Files) (names contents : Names) (name bytes : List ℕ) → AreFiles files names contents → IsFile files name bytes → length bytes ≤ MOST_BYTES → AreFiles files (names ++ name ∷ []) (contents ++ bytes ∷ [])
are_more files [] [] name bytes a f s = (f, s, tt)
are_more files [] (c ∷ cs) name bytes a f s = absurd a
are_more files (n ∷ ns) [] name bytes a f s = absurd a
are_more files (n ∷ ns) (c ∷ cs) name bytes a f s = (a.0, a.1, are_more files ns cs name bytes a.2 f s)

length_more : (names : Names) (name : List ℕ) → length (names ++ name ∷ []) ≡ suc (length names)
length_more [] name = refl
length_more (n ∷ ns) name = ap suc (length_more ns name)

read_more : (items : List Item) (left : Names) (before now next : Store) (front contents : Names) (name bytes : List ℕ) → ReadSoFar items (name ∷ left) before now front contents → IsRead name now next bytes → next.files ≡ now.files → next.faults ≡ now.faults → next.last_failed ≡ now.last_failed → ReadSoFar items left before next (front ++ name ∷ []) (contents ++ bytes ∷ [])
read_more items left before now next front contents name bytes r f same quiet last =
    let more : length (front ++ name ∷ []) ≡ suc (length front) = length_more front name in
    record {
      names = r.names ∙ sym (append_assoc front (name ∷ []) left);
      are = are_more before.files front contents name bytes r.are (subst (λ x. IsFile x name bytes) r.files f.file) f.short;
      files = same ∙ r.files;
      reads = f.reads ∙ (ap counted r.reads ∙ ap (λ k. counted_by k before.reads) (sym more));
      faults = quiet ∙ r.faults;
      last_failed = last ∙ r.last_failed;
    }

pub goes_on : (items rest : List Item) (i : Item) (before now next : Store) (g g' : Gathered) → Gathering items (i ∷ rest) before now g → Took i g g' now next → next.files ≡ now.files → next.faults ≡ now.faults → next.last_failed ≡ now.last_failed → Gathering items rest before next g'
goes_on items rest (item.Pair p) before now next g g' h t same quiet last = record {
  front = h.front;
  contents = h.contents;
  read = subst (λ s. ReadSoFar items (item_names rest) before s h.front h.contents) (sym t.0) h.read;
  kept = subst (KeptSoFar items rest h.contents) (sym t.1) (kept_pair items rest h.contents g p h.kept);
}
goes_on items rest (item.Settings name) before now next g g' h t same quiet last = record {
  front = h.front ++ name ∷ [];
  contents = h.contents ++ t.bytes ∷ [];
  read = read_more items (item_names rest) before now next h.front h.contents name t.bytes h.read t.read same quiet last;
  kept = subst (KeptSoFar items rest (h.contents ++ t.bytes ∷ [])) (sym t.kept) (kept_settings items rest h.contents g name t.bytes (file_pairs t.bytes) refl h.kept);
}
goes_on items rest (item.Mesh name e) before now next g g' h t same quiet last = record {
  front = h.front ++ name ∷ [];
  contents = h.contents ++ t.bytes ∷ [];
  read = read_more items (item_names rest) before now next h.front h.contents name t.bytes h.read t.read same quiet last;
  kept = subst (KeptSoFar items rest (h.contents ++ t.bytes ∷ [])) (sym t.kept) (kept_mesh items rest h.contents g name t.bytes e t.read.short h.kept);
}

-- reading ends at the next file
ends_at : (items : List Item) (left : Names) (before now next : Store) (front contents : Names) (name n : List ℕ) → ReadSoFar items (name ∷ left) before now front contents → n ≡ name → next.reads ≡ counted now.reads → EndsAt items n before next
ends_at items left before now next front contents name n r e once = record {
  front = front;
  rest = left;
  contents = contents;
  names = r.names ∙ ap (λ (x : List ℕ). front ++ x ∷ left) (sym e);
  are = r.are;
  reads = once ∙ ap counted r.reads;
}

still_too_long : (before now : Store) (name n : List ℕ) → now.files ≡ before.files → n ≡ name → IsTooLong now.files name MOST_BYTES → IsTooLong before.files n MOST_BYTES
still_too_long before now name n same e t =
    let t' : IsTooLong before.files name MOST_BYTES = subst (λ x. IsTooLong x name MOST_BYTES) same t in
    subst (λ x. IsTooLong before.files x MOST_BYTES) (sym e) t'

-- some of the files were read
some_read : (items : List Item) (left : Names) (before now : Store) (front contents : Names) → ReadSoFar items left before now front contents → ReadsSome items before now
some_read items left before now front contents r =
    let all : length (item_names items) ≡ length (front ++ left) = ap length r.names in
    record { count = length front; few = omega (arith, all, length-append front left); reads = r.reads }

some_more : (items : List Item) (left : Names) (before now next : Store) (front contents : Names) (name : List ℕ) → ReadSoFar items (name ∷ left) before now front contents → ReadsOneAtMost now next → ReadsSome items before next
some_more items left before now next front contents name r (inl none) =
    let all : length (item_names items) ≡ length (front ++ name ∷ left) = ap length r.names in
    record { count = length front; few = omega (arith, all, length-append front (name ∷ left)); reads = none ∙ r.reads }
some_more items left before now next front contents name r (inr once) =
    let all : length (item_names items) ≡ length (front ++ name ∷ left) = ap length r.names in
    record { count = suc (length front); few = omega (arith, all, length-append front (name ∷ left)); reads = once ∙ ap counted r.reads }

file_refused : (items : List Item) (left : Names) (before now next : Store) (front contents : Names) (name : List ℕ) (r : PlateFault) → ReadSoFar items (name ∷ left) before now front contents → FileRefusal r name now next → next.faults ≡ refused_faults r before.faults → GatherRefusal r items before next
file_refused items left before now next front contents name (fault.ReadFault n) s h f = record { ends = ends_at items left before now next front contents name n s h.0 h.1.reads; last_failed = h.1.last_failed ∙ ap Some (sym h.0); cause = f }
file_refused items left before now next front contents name (fault.TooLong n) s h f = (ends_at items left before now next front contents name n s h.0 h.1.reads, still_too_long before now name n s.files h.0 h.1.too_long)
file_refused items left before now next front contents name fault.NoMemory s h f = some_more items left before now next front contents name s h
file_refused items left before now next front contents name r s h f = absurd h

pair_refused : (items : List Item) (left : Names) (before now next : Store) (front contents : Names) (r : PlateFault) → ReadSoFar items left before now front contents → (r ≡ fault.NoMemory) × (next ≡ now) → GatherRefusal r items before next
pair_refused items left before now next front contents r s h =
    let some : ReadsSome items before next = subst (ReadsSome items before) (sym h.1) (some_read items left before now front contents s) in
    subst (λ x. GatherRefusal x items before next) (sym h.0) some

-- the count of faults is that after the refusal
pub faults_since : (items rest : List Item) (before now next : Store) (g : Gathered) (r : PlateFault) → Gathering items rest before now g → next.faults ≡ refused_faults r now.faults → next.faults ≡ refused_faults r before.faults
faults_since items rest before now next g r h f = f ∙ ap (refused_faults r) h.read.faults

-- the name of the last failed read is that after the refusal
pub last_failed_since : (items rest : List Item) (before now next : Store) (g : Gathered) (r : PlateFault) → Gathering items rest before now g → next.last_failed ≡ refused_last_failed r now.last_failed → next.last_failed ≡ refused_last_failed r before.last_failed
last_failed_since items rest before now next g r h f = f ∙ ap (refused_last_failed r) h.read.last_failed

pub refused : (items rest : List Item) (i : Item) (before now next : Store) (g : Gathered) (r : PlateFault) → Gathering items (i ∷ rest) before now g → Refused r i now next → next.faults ≡ refused_faults r now.faults → GatherRefusal r items before next
refused items rest (item.Pair p) before now next g r h e f = pair_refused items (item_names rest) before now next h.front h.contents r h.read e
refused items rest (item.Settings name) before now next g r h e f = file_refused items (item_names rest) before now next h.front h.contents name r h.read e (f ∙ ap (refused_faults r) h.read.faults)
refused items rest (item.Mesh name n) before now next g r h e f = file_refused items (item_names rest) before now next h.front h.contents name r h.read e (f ∙ ap (refused_faults r) h.read.faults)

pub reads_refused : (items : List Item) (before after : Store) (r : PlateFault) → GatherRefusal r items before after → ReadsBefore r items before after
reads_refused items before after (fault.ReadFault name) h = h.ends
reads_refused items before after (fault.TooLong name) h = h.0
reads_refused items before after fault.NoMemory h = h
reads_refused items before after r h = absurd h

pub reads_all : (items : List Item) (before now : Store) (g : Gathered) → Gathering items [] before now g → ReadsAll items before now
reads_all items before now g h = h.read.reads ∙ ap (λ ns. counted_by (length ns) before.reads) (sym (h.read.names ∙ append-nil h.front))

pub ended : (items : List Item) (before now : Store) (g : Gathered) → Gathering items [] before now g → HasGathered items before.files g
ended items before now g h = record {
  contents = h.contents;
  are = subst (λ ns. AreFiles before.files ns h.contents) (sym (h.read.names ∙ append-nil h.front)) h.read.are;
  pairs = ap (pairs_of items) (sym (append-nil h.contents)) ∙ (h.kept.pairs [] ∙ after-end g.pairs g.not_json);
  meshes = sym (ap (mesh_bytes items) (sym (append-nil h.contents)) ∙ (h.kept.meshes [] ∙ append-nil g.meshes));
  extruders = sym (h.kept.extruders ∙ append-nil g.extruders);
  as_many = h.kept.as_many;
  short = h.kept.short;
}

pub utf8_here : (i : Item) (rest : List Item) → All IsUtf8 (item_names (i ∷ rest)) → All IsUtf8 (item_names (i ∷ []))
utf8_here (item.Pair p) rest h = All-nil IsUtf8
utf8_here (item.Settings name) rest h = All-cons IsUtf8 name [] (All-head IsUtf8 name (item_names rest) h) (All-nil IsUtf8)
utf8_here (item.Mesh name e) rest h = All-cons IsUtf8 name [] (All-head IsUtf8 name (item_names rest) h) (All-nil IsUtf8)

pub utf8_rest : (i : Item) (rest : List Item) → All IsUtf8 (item_names (i ∷ rest)) → All IsUtf8 (item_names rest)
utf8_rest (item.Pair p) rest h = h
utf8_rest (item.Settings name) rest h = All-tail IsUtf8 name (item_names rest) h
utf8_rest (item.Mesh name e) rest h = All-tail IsUtf8 name (item_names rest) h

-- the item at a place, and those behind it
rest_at : (items : List Item) (i : ℕ) (x : Item) → i < length items → x ≡ get_or items i x → drop i items ≡ x ∷ drop (i + 1) items
rest_at items i x lt is = rw add-one (drop-cons items i x lt ∙ ap (λ y. y ∷ drop (suc i) items) (sym is))

pub gathering_at : (items : List Item) (i : ℕ) (x : Item) (before now : Store) (g : Gathered) → i < length items → x ≡ get_or items i x → Gathering items (drop i items) before now g → Gathering items (x ∷ drop (i + 1) items) before now g
gathering_at items i x before now g lt is h = subst (λ rest. Gathering items rest before now g) (rest_at items i x lt is) h

pub utf8_at : (items : List Item) (i : ℕ) (x : Item) → i < length items → x ≡ get_or items i x → All IsUtf8 (item_names (drop i items)) → All IsUtf8 (item_names (x ∷ drop (i + 1) items))
utf8_at items i x lt is h = subst (λ rest. All IsUtf8 (item_names rest)) (rest_at items i x lt is) h

pub ends_here : (items : List Item) (i : ℕ) (before now : Store) (g : Gathered) → length items ≤ i → Gathering items (drop i items) before now g → Gathering items [] before now g
ends_here items i before now g le h = subst (λ rest. Gathering items rest before now g) (drop_all i items le) h
