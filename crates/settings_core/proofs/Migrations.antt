-- A settings file, written anew: what its members, its depth and its pairs are.
use Rattle.std.proofs.Common.{◌≡◌, ◌≤◌, ℕ, suc, List, [], ◌∷◌, length, map, take, true, false, Option, Some, None, Ordering, Less, Equal, Greater, refl, ap, ◌∙◌, arith, rules}
use Rattle.std.specs.Prelude.{◌+◌, nat_le, codes, option_map, IfSome}
use Rattle.std.proofs.lemmas.Bool.Decides.{nat_tests}
use Rattle.std.proofs.lemmas.List.{take_all}
use Rattle.serde_json.specs.Events.{items_len}
use Rattle.serde_json.specs.View.{items_of, items_view, view}
use Rattle.serde_json.proofs.Views.{items_len-items_view}
use Rattle.serde_json.specs.declared.value.Value.{Value}
use Rattle.std.specs.Ordering.{nat_cmp, match_ordering}
use Rattle.std.specs.Cmp.Lexicographic.{slice_cmp}
use Rattle.serde_json.specs.Data.{Data, unsigned, number, object, Items, no_items, item, Members, no_members, member, put, depth, items_depth, members_depth}
use Rattle.serde_json.specs.Written.{has_float, items_have_float, members_have_float}
use Rattle.settings_core.specs.declared.pairs.Scope.{Scope}
use Rattle.settings_core.specs.declared.pairs.Given.{Given}
use Rattle.settings_core.specs.declared.pairs.Given.TheVariants.{Words, Other}
use Rattle.settings_core.specs.declared.contents.Contents.{Contents}
use Rattle.settings_core.specs.File.{FileContents, are_objects, value_given, member_pairs, members_in, object_pairs, contents_of, document_of, file_pairs, pairs_of}
use Rattle.settings_core.specs.Inner.Contents.{AreFew, contents_view, put_listed}
use Rattle.settings_core.specs.Migrate.{given_data, second_members, second_items, second_version}
use Rattle.settings_core.proofs.FileLemmas.{file_pairs-of}

by_order : (o : Ordering) (f : Members → Members) (a b c : Members) → match_ordering o (f a) (f b) (f c) ≡ f (match_ordering o a b c)
by_order Less f a b c = refl
by_order Equal f a b c = refl
by_order Greater f a b c = refl

pub second_members-put : (k : List ℕ) (d : Data) (ms : Members) → put k (given_data (value_given d)) (second_members ms) ≡ second_members (put k d ms)
second_members-put k d no_members = refl
second_members-put k d (member l e ms) = rw (second_members-put k d ms) (by_order (slice_cmp nat_cmp k l) second_members (member k d (member l e ms)) (member l d ms) (member l e (put k d ms)))

-- the members stand in the order of their keys
pub second_version-built : (c : FileContents) → object (put (codes "version") (number (unsigned 2)) (put_listed (codes "meshes") c.meshes (put (codes "global") (object (second_members c.global)) (put_listed (codes "extruders") c.extruders no_members)))) ≡ second_version c
second_version-built c = by_cases c.extruders c.meshes c.global
  where
    by_cases : (es ms : Option Items) (g : Members) → object (put (codes "version") (number (unsigned 2)) (put_listed (codes "meshes") ms (put (codes "global") (object (second_members g)) (put_listed (codes "extruders") es no_members)))) ≡ second_version (record { global = g; extruders = es; meshes = ms })
    by_cases None None g = refl
    by_cases None (Some ms) g = refl
    by_cases (Some es) None g = refl
    by_cases (Some es) (Some ms) g = refl

-- ---- it isn't deep, and has no floating-point number

given-flat : (g : Given) → depth (given_data g) ≡ 0
given-flat (Words s) = refl
given-flat Other = refl

members-flat : (ms : Members) → members_depth (second_members ms) ≡ 0
members-flat no_members = refl
members-flat (member k d ms) = rw (given-flat (value_given d), members-flat ms) refl

items-flat : (ds : Items) → items_depth (second_items ds) ≤ 1
items-flat no_items = omega arith
items-flat (item d ds) = let e = members-flat (members_in d) in let h = items-flat ds in grind (arith, e, h)

pub second_version-depth : (c : FileContents) → depth (second_version c) ≤ 127
second_version-depth c = by_cases c.extruders c.meshes c.global
  where
    by_cases : (es ms : Option Items) (g : Members) → depth (second_version (record { global = g; extruders = es; meshes = ms })) ≤ 127
    by_cases None None g = let e = members-flat g in grind (arith, e)
    by_cases None (Some ms) g = let e = members-flat g in let h = items-flat ms in grind (arith, e, h)
    by_cases (Some es) None g = let e = members-flat g in let f = items-flat es in grind (arith, e, f)
    by_cases (Some es) (Some ms) g = let e = members-flat g in let f = items-flat es in let h = items-flat ms in grind (arith, e, f, h)

given-whole : (g : Given) → has_float (given_data g) ≡ false
given-whole (Words s) = refl
given-whole Other = refl

members-whole : (ms : Members) → members_have_float (second_members ms) ≡ false
members-whole no_members = refl
members-whole (member k d ms) = rw (given-whole (value_given d), members-whole ms) refl

items-whole : (ds : Items) → items_have_float (second_items ds) ≡ false
items-whole no_items = refl
items-whole (item d ds) = rw (members-whole (members_in d), items-whole ds) refl

pub second_version-whole : (c : FileContents) → has_float (second_version c) ≡ false
second_version-whole c = by_cases c.extruders c.meshes c.global
  where
    by_cases : (es ms : Option Items) (g : Members) → has_float (second_version (record { global = g; extruders = es; meshes = ms })) ≡ false
    by_cases None None g = rw (members-whole g) refl
    by_cases None (Some ms) g = rw (members-whole g, items-whole ms) refl
    by_cases (Some es) None g = rw (members-whole g, items-whole es) refl
    by_cases (Some es) (Some ms) g = rw (members-whole g, items-whole es, items-whole ms) refl

-- ---- it gives the same pairs

given-back : (g : Given) → value_given (given_data g) ≡ g
given-back (Words s) = refl
given-back Other = refl

member_pairs-back : (scope : Scope) (ms : Members) → member_pairs scope (second_members ms) ≡ member_pairs scope ms
member_pairs-back scope no_members = refl
member_pairs-back scope (member k d ms) = rw (given-back (value_given d), member_pairs-back scope ms) refl

object_pairs-back : (scope : ℕ → Scope) (n : ℕ) (ds : Items) → object_pairs scope n (second_items ds) ≡ object_pairs scope n ds
object_pairs-back scope n no_items = refl
object_pairs-back scope n (item d ds) = rw (member_pairs-back (scope n) (members_in d), object_pairs-back scope (n + 1) ds) refl

items_len-second : (ds : Items) → items_len (second_items ds) ≡ items_len ds
items_len-second no_items = refl
items_len-second (item d ds) = ap suc (items_len-second ds)

are_objects-second : (ds : Items) → are_objects (second_items ds) ≡ true
are_objects-second no_items = refl
are_objects-second (item d ds) = are_objects-second ds

-- at most so many objects, where they are there
abbrev IsFew : ℕ → Option Items → Type 0
IsFew most None = Unit {0}
IsFew most (Some ds) = nat_le (items_len ds) most ≡ true

is_few : {X : Type 0} (f : X → List Value) (most : ℕ) (o : Option X) → IfSome o (λ x. length (f x) ≤ most) → IsFew most (option_map (λ x. items_view (f x)) o)
is_few f most None h = tt
is_few f most (Some x) h = let e = items_len-items_view (f x) in search (rules, nat_tests)

-- what the new document holds
abbrev second_contents : FileContents → FileContents
second_contents c = record { global = second_members c.global; extruders = option_map second_items c.extruders; meshes = option_map second_items c.meshes }

contents_of-second : (c : FileContents) → IsFew 8 c.extruders → IsFew 16 c.meshes → contents_of (second_version c) ≡ Some (second_contents c)
contents_of-second c few fewer = by_cases c.extruders c.meshes c.global few fewer
  where
    by_cases : (es ms : Option Items) (g : Members) → IsFew 8 es → IsFew 16 ms → contents_of (second_version (record { global = g; extruders = es; meshes = ms })) ≡ Some (second_contents (record { global = g; extruders = es; meshes = ms }))
    by_cases None None g few fewer = refl
    by_cases None (Some ms) g few fewer = rw (items_len-second ms, fewer, are_objects-second ms) refl
    by_cases (Some es) None g few fewer = rw (items_len-second es, few, are_objects-second es) refl
    by_cases (Some es) (Some ms) g few fewer = rw (items_len-second es, few, are_objects-second es, items_len-second ms, fewer, are_objects-second ms) refl

pairs_of-second : (c : FileContents) → pairs_of (second_contents c) ≡ pairs_of c
pairs_of-second c = by_cases c.extruders c.meshes c.global
  where
    by_cases : (es ms : Option Items) (g : Members) → pairs_of (second_contents (record { global = g; extruders = es; meshes = ms })) ≡ pairs_of (record { global = g; extruders = es; meshes = ms })
    by_cases None None g = rw (member_pairs-back Scope.Global g) refl
    by_cases None (Some ms) g = rw (member_pairs-back Scope.Global g, object_pairs-back Scope.Mesh 0 ms) refl
    by_cases (Some es) None g = rw (member_pairs-back Scope.Global g, object_pairs-back Scope.Extruder 0 es) refl
    by_cases (Some es) (Some ms) g = rw (member_pairs-back Scope.Global g, object_pairs-back Scope.Extruder 0 es, object_pairs-back Scope.Mesh 0 ms) refl

pub file_pairs-second : (c : Contents) (text : List ℕ) → AreFew c → document_of text ≡ Some (second_version (contents_view c)) → file_pairs text ≡ Some (pairs_of (contents_view c))
file_pairs-second c text few reads =
    let held = contents_of-second (contents_view c) (is_few (λ vs. vs.now) 8 c.extruders few.extruders) (is_few (λ vs. vs.now) 16 c.meshes few.meshes) in
    file_pairs-of text (second_version (contents_view c)) reads ∙ ap (option_map pairs_of) held ∙ ap Some (pairs_of-second (contents_view c))

-- ---- objects, one after another

-- an item as it is written
abbrev pub second_item : Value → Data
second_item v = object (second_members (members_in (view v)))

pub second_items-map : (vs : List Value) → items_of (map second_item vs) ≡ second_items (items_view vs)
second_items-map [] = refl
second_items-map (v ∷ vs) = ap (item (second_item v)) (second_items-map vs)

pub second_items-all : (ws vs : List Value) (i : ℕ) → length vs ≤ i → map view ws ≡ map second_item (take i vs) → items_view ws ≡ second_items (items_view vs)
second_items-all ws vs i past e = ap items_of (e ∙ ap (map second_item) (take_all i vs past)) ∙ second_items-map vs
