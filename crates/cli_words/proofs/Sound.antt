-- A command that words give is sound.
use Rattle.std.proofs.Common.{ℕ, zero, suc, ◌≡◌, ◌+◌, ◌<◌, ◌≤◌, Bool, true, false, cond, List, [], ◌∷◌, ◌++◌, length, Option, Some, None, Result, Ok, Err, arith, refl, subst}
use Rattle.std.specs.Prelude.{count_by, position, bytes_eq, codes, ◌==◌, ◌&&◌, nat_le, IsSome}
use Rattle.std.specs.List.{All, AllByRecursion, fold}
use Rattle.std.proofs.lemmas.Bool.{leb-true, leb-false, eqb-false}
use Rattle.std.proofs.lemmas.Grind.{common_steps}
use Rattle.cli_words.specs.Choices.{Piece, alone, taking, lacking, Chosen, settings, mesh, extruder, everything, pair, output, workers, journal, nothing, cut, words_in, is_settings, is_mesh, or_fault, if_within, numeral, number_of, extruder_if, workers_if, extruder_of, workers_of, numbered, alone_of, pair_at, choice_of, with_choice, read, choices_of}
use Rattle.cli_words.specs.Command.{Context, start, moved, items_of, all_items, output_in, workers_or, is_none, task_of, kind_of, needs_output, task_command, task_if, gen_file, gen_output, gen_numbered, gen_of, command_by, command_of, item_extruders, IsTask, IsSound}
use Rattle.cli_words.specs.declared.choice.Taker.{Taker}
use Rattle.cli_words.specs.declared.choice.Taker.TheVariants as taker
use Rattle.cli_words.specs.declared.read.Kind.{Kind}
use Rattle.cli_words.specs.declared.read.Kind.TheVariants as kind
use Rattle.cli_words.specs.declared.command.Command.{Command}
use Rattle.cli_words.specs.declared.command.WordFault.{WordFault}
use Rattle.cli_words.specs.declared.command.WordFault.TheVariants.{BadWord, NoInput, NoOutput}

-- a number lies within bounds, where there is one
abbrev pub IfWithin : ℕ → ℕ → Option ℕ → Type 0
IfWithin least greatest None = Unit {0}
IfWithin least greatest (Some n) = (least ≤ n) × (n ≤ greatest)

-- a mesh behind so many comes before the seventeenth, an extruder is below 8, and workers are 1 to 64
abbrev pub IsFine : ℕ → Chosen → Type 0
IsFine meshes (mesh w) = meshes < 16
IsFine meshes (extruder n) = (0 ≤ n) × (n ≤ 7)
IsFine meshes (workers n) = (1 ≤ n) × (n ≤ 64)
IsFine meshes c = Unit {0}

abbrev pub IfFine : ℕ → Option Chosen → Type 0
IfFine meshes None = Unit {0}
IfFine meshes (Some c) = IsFine meshes c

both_true : (a b : Bool) → (a && b) ≡ true → (a ≡ true) × (b ≡ true)
both_true true b e = (refl, e)
both_true false b e = cc

within_if : (least greatest n : ℕ) (b : Bool) → (nat_le least n && nat_le n greatest) ≡ b → IfWithin least greatest (cond b (Some n) None)
within_if least greatest n true e =
    let both = both_true (nat_le least n) (nat_le n greatest) e in
    (leb-true least n both.0, leb-true n greatest both.1)
within_if least greatest n false e = tt

if_within_is : (least greatest : ℕ) (o : Option ℕ) → IfWithin least greatest (if_within least greatest o)
if_within_is least greatest None = tt
if_within_is least greatest (Some n) = within_if least greatest n (nat_le least n && nat_le n greatest) refl

within_cond : (least greatest : ℕ) (b : Bool) (x y : Option ℕ) → IfWithin least greatest x → IfWithin least greatest y → IfWithin least greatest (cond b x y)
within_cond least greatest true x y p q = p
within_cond least greatest false x y p q = q

number_within : (most least greatest : ℕ) (ds : List ℕ) → IfWithin least greatest (number_of most least greatest ds)
number_within most least greatest ds =
    within_cond least greatest (nat_le 1 (length ds) && nat_le (length ds) most) (if_within least greatest (numeral ds)) None
    (if_within_is least greatest (numeral ds)) tt

fine_cond : (m : ℕ) (b : Bool) (x y : Option Chosen) → IfFine m x → IfFine m y → IfFine m (cond b x y)
fine_cond m true x y p q = p
fine_cond m false x y p q = q

fine_extruder : (m : ℕ) (o : Option ℕ) → IfWithin 0 7 o → IfFine m (extruder_if o)
fine_extruder m None h = tt
fine_extruder m (Some n) h = h

fine_workers : (m : ℕ) (o : Option ℕ) → IfWithin 1 64 o → IfFine m (workers_if o)
fine_workers m None h = tt
fine_workers m (Some n) h = h

fine_numbered : (m : ℕ) (w : List ℕ) → IfFine m (numbered w)
fine_numbered m [] = tt
fine_numbered m (a ∷ []) = tt
fine_numbered m (a ∷ b ∷ ds) =
    fine_cond m (a == 45 && b == 101) (extruder_of ds) (cond (a == 45 && b == 109) (workers_of ds) None)
    (fine_extruder m (number_of 1 0 7 ds) (number_within 1 0 7 ds))
    (fine_cond m (a == 45 && b == 109) (workers_of ds) None (fine_workers m (number_of 2 1 64 ds) (number_within 2 1 64 ds)) tt)

fine_alone : (m : ℕ) (w : List ℕ) → IfFine m (alone_of w)
fine_alone m w =
    let e = cond (bytes_eq w (codes "--journal")) (Some journal) (numbered w) in
    let d = cond (bytes_eq w (codes "-p")) (Some nothing) e in
    let c = cond (bytes_eq w (codes "-v")) (Some nothing) d in
    fine_cond m (bytes_eq w (codes "-g")) (Some everything) c tt
    (fine_cond m (bytes_eq w (codes "-v")) (Some nothing) d tt
    (fine_cond m (bytes_eq w (codes "-p")) (Some nothing) e tt
    (fine_cond m (bytes_eq w (codes "--journal")) (Some journal) (numbered w) tt (fine_numbered m w))))

fine_pair : (m : ℕ) (w : List ℕ) (o : Option ℕ) → IfFine m (pair_at w o)
fine_pair m w None = tt
fine_pair m w (Some i) = tt

abbrev pub IfFineOk : ℕ → Result Chosen ℕ → Type 0
IfFineOk m (Ok c) = IsFine m c
IfFineOk m (Err n) = Unit {0}

fine_or_fault : (m n : ℕ) (o : Option Chosen) → IfFine m o → IfFineOk m (or_fault n o)
fine_or_fault m n None h = tt
fine_or_fault m n (Some c) h = h

fine_unless : (m n : ℕ) (b : Bool) (r : Result Chosen ℕ) → IfFineOk m r → IfFineOk m (cond b (Err n) r)
fine_unless m n true r h = tt
fine_unless m n false r h = h

fine_mesh : (m n : ℕ) (w : List ℕ) (b : Bool) → nat_le 16 m ≡ b → IfFineOk m (cond b (Err n) (Ok (mesh w)))
fine_mesh m n w true e = tt
fine_mesh m n w false e = leb-false 16 m e

fine_taking : (files m n : ℕ) (t : Taker) (w : List ℕ) → IfFineOk m (choice_of n files m (taking t w))
fine_taking files m n taker.Settings w = fine_unless m n (nat_le 16 files) (or_fault (n + 1) (Some (settings w))) tt
fine_taking files m n taker.Mesh w = fine_mesh m n w (nat_le 16 m) refl
fine_taking files m n taker.Output w = tt
fine_taking files m n taker.Pair w = fine_or_fault m (n + 1) (pair_at w (position (λ c. c == 61) w)) (fine_pair m w (position (λ c. c == 61) w))

fine_choice : (files m n : ℕ) (p : Piece) → IfFineOk m (choice_of n files m p)
fine_choice files m n lacking = tt
fine_choice files m n (alone w) = fine_or_fault m n (alone_of w) (fine_alone m w)
fine_choice files m n (taking t w) = fine_taking files m n t w

-- an extruder is below 8, and workers are 1 to 64
abbrev pub IsBelow : Chosen → Type 0
IsBelow (extruder n) = (0 ≤ n) × (n ≤ 7)
IsBelow (workers n) = (1 ≤ n) × (n ≤ 64)
IsBelow c = Unit {0}

pub record AreFine (cs : List Chosen) : Type 0 where
  pub few : count_by is_mesh cs ≤ 16
  pub below : AllByRecursion IsBelow cs

below_push : (cs : List Chosen) (c : Chosen) → AllByRecursion IsBelow cs → IsBelow c → AllByRecursion IsBelow (cs ++ c ∷ [])
below_push [] c h k = (k, tt)
below_push (x ∷ xs) c h k = (h.0, below_push xs c h.1 k)

fine_below : (m : ℕ) (c : Chosen) → IsFine m c → IsBelow c
fine_below m (settings w) h = tt
fine_below m (mesh w) h = tt
fine_below m (extruder n) h = h
fine_below m everything h = tt
fine_below m (pair a b) h = tt
fine_below m (output w) h = tt
fine_below m (workers n) h = h
fine_below m journal h = tt
fine_below m nothing h = tt

count_few : (m : ℕ) (c : Chosen) → IsFine m c → m ≤ 16 → m + cond (is_mesh c) 1 0 ≤ 16
count_few m (settings w) h k = omega arith
count_few m (mesh w) h k = omega arith
count_few m (extruder n) h k = omega arith
count_few m everything h k = omega arith
count_few m (pair a b) h k = omega arith
count_few m (output w) h k = omega arith
count_few m (workers n) h k = omega arith
count_few m journal h k = omega arith
count_few m nothing h k = omega arith

counted : (cs : List Chosen) (c : Chosen) → count_by is_mesh (cs ++ c ∷ []) ≡ count_by is_mesh cs + cond (is_mesh c) 1 0
counted cs c = grind (arith, common_steps)

fine_push : (cs : List Chosen) (c : Chosen) → AreFine cs → IsFine (count_by is_mesh cs) c → AreFine (cs ++ c ∷ [])
fine_push cs c h k = record {
  few = rw (counted cs c) (count_few (count_by is_mesh cs) c k h.few);
  below = below_push cs c h.below (fine_below (count_by is_mesh cs) c k);
}

abbrev pub IfAllFine : Result (List Chosen) ℕ → Type 0
IfAllFine (Ok cs) = AreFine cs
IfAllFine (Err n) = Unit {0}

fine_then : (m : ℕ) (r : Result Chosen ℕ) (f : Chosen → Result (List Chosen) ℕ) → IfFineOk m r → ((c : Chosen) → IsFine m c → IfAllFine (f c)) → IfAllFine (with_choice r f)
fine_then m (Err n) f h next = tt
fine_then m (Ok c) f h next = next c h

fine_read : (n : ℕ) (done : List Chosen) (ps : List Piece) → AreFine done → IfAllFine (read n done ps)
fine_read n done [] h = h
fine_read n done (p ∷ ps) h =
    fine_then (count_by is_mesh done) (choice_of n (count_by is_settings done) (count_by is_mesh done) p) (λ c. read (n + words_in p) (done ++ c ∷ []) ps)
    (fine_choice (count_by is_settings done) (count_by is_mesh done) n p)
    (λ c k. fine_read (n + words_in p) (done ++ c ∷ []) ps (fine_push done c h k))

fine_choices : (ws : List (List ℕ)) → IfAllFine (choices_of ws)
fine_choices ws = fine_read 2 [] (cut None ws) (record { few = omega arith; below = tt })

-- the meshes of items are those that the choices name
count_item : (p : Context) (c : Chosen) (cs : List Chosen) → length (item_extruders (all_items (moved p c) cs)) ≡ count_by is_mesh cs → length (item_extruders (items_of p c ++ all_items (moved p c) cs)) ≡ count_by is_mesh (c ∷ cs)
count_item p (settings w) cs e = grind (arith, common_steps)
count_item p (mesh w) cs e = grind (arith, common_steps)
count_item p (extruder n) cs e = grind (arith, common_steps)
count_item p everything cs e = grind (arith, common_steps)
count_item p (pair a b) cs e = grind (arith, common_steps)
count_item p (output w) cs e = grind (arith, common_steps)
count_item p (workers n) cs e = grind (arith, common_steps)
count_item p journal cs e = grind (arith, common_steps)
count_item p nothing cs e = grind (arith, common_steps)

count_items : (p : Context) (cs : List Chosen) → length (item_extruders (all_items p cs)) ≡ count_by is_mesh cs
count_items p [] = refl
count_items p (c ∷ cs) = count_item p c cs (count_items (moved p c) cs)

abbrev pub AreBelow : List ℕ → Type 0
AreBelow es = AllByRecursion (λ e. e < 8) es

below_context : (p : Context) (c : Chosen) → p.extruder < 8 → IsBelow c → (moved p c).extruder < 8
below_context p (settings w) h k = h
below_context p (mesh w) h k = h
below_context p (extruder n) h k = let most = k.1 in omega (arith, most)
below_context p everything h k = h
below_context p (pair a b) h k = h
below_context p (output w) h k = h
below_context p (workers n) h k = h
below_context p journal h k = h
below_context p nothing h k = h

below_item : (p : Context) (c : Chosen) (cs : List Chosen) → p.extruder < 8 → AreBelow (item_extruders (all_items (moved p c) cs)) → AreBelow (item_extruders (items_of p c ++ all_items (moved p c) cs))
below_item p (settings w) cs h k = k
below_item p (mesh w) cs h k = (h, k)
below_item p (extruder n) cs h k = k
below_item p everything cs h k = k
below_item p (pair a b) cs h k = k
below_item p (output w) cs h k = k
below_item p (workers n) cs h k = k
below_item p journal cs h k = k
below_item p nothing cs h k = k

below_items : (p : Context) (cs : List Chosen) → p.extruder < 8 → AllByRecursion IsBelow cs → AreBelow (item_extruders (all_items p cs))
below_items p [] h k = tt
below_items p (c ∷ cs) h k = below_item p c cs h (below_items (moved p c) cs (below_context p c h k.0) k.1)

all_from : (P : ℕ → Type 0) (xs : List ℕ) → AllByRecursion P xs → All P xs
all_from P [] h k d lt = absurd (omega arith)
all_from P (x ∷ xs) h zero d lt = h.0
all_from P (x ∷ xs) h (suc k) d lt = all_from P xs h.1 k d (omega arith)

-- how many workers there are, behind choices of such
some_workers : (n : ℕ) (cs : List Chosen) → (1 ≤ n) × (n ≤ 64) → AllByRecursion IsBelow cs → (1 ≤ fold workers_or n cs) × (fold workers_or n cs ≤ 64)
some_workers n [] h k = h
some_workers n (settings w ∷ cs) h k = some_workers n cs h k.1
some_workers n (mesh w ∷ cs) h k = some_workers n cs h k.1
some_workers n (extruder e ∷ cs) h k = some_workers n cs h k.1
some_workers n (everything ∷ cs) h k = some_workers n cs h k.1
some_workers n (pair a b ∷ cs) h k = some_workers n cs h k.1
some_workers n (output w ∷ cs) h k = some_workers n cs h k.1
some_workers n (workers m ∷ cs) h k = some_workers m cs k.0 k.1
some_workers n (journal ∷ cs) h k = some_workers n cs h k.1
some_workers n (nothing ∷ cs) h k = some_workers n cs h k.1

is_task : (cs : List Chosen) → AreFine cs → (count_by is_mesh cs == 0) ≡ false → IsTask (task_of cs)
is_task cs h e =
    let same : length (item_extruders (all_items start cs)) ≡ count_by is_mesh cs = count_items start cs in
    let ne : count_by is_mesh cs ≡ 0 → ⊥ = eqb-false (count_by is_mesh cs) 0 e in
    let some : 0 < count_by is_mesh cs = omega (arith, ne) in
    let workers = some_workers 4 cs (omega arith, omega arith) h.below in
    let least = workers.0 in
    record {
      a_worker = omega (arith, least);
      few_workers = workers.1;
      some = omega (arith, same, some);
      few = omega (arith, same, h.few);
      below_eight = all_from (λ n. n < 8) (item_extruders (all_items start cs)) (below_items start cs (omega arith) h.below);
    }

has_output : (o : Option (List ℕ)) → is_none o ≡ false → IsSome o
has_output None e = cc
has_output (Some w) e = refl

abbrev pub IfSound : Result Command WordFault → Type 0
IfSound (Ok c) = IsSound c
IfSound (Err e) = Unit {0}

sound_command : (k : Kind) (cs : List Chosen) → IsTask (task_of cs) → (b : Bool) → (needs_output k && is_none (output_in cs)) ≡ b → IfSound (cond b (Err NoOutput) (Ok (task_command k (task_of cs))))
sound_command k cs t true e = tt
sound_command kind.Slice cs t false e = (t, has_output (output_in cs) e)
sound_command kind.Serial cs t false e = (t, has_output (output_in cs) e)
sound_command kind.Check cs t false e = t
sound_command kind.Gen cs t false e = t

sound_checked : (k : Kind) (cs : List Chosen) → AreFine cs → (b : Bool) → (count_by is_mesh cs == 0) ≡ b → IfSound (cond b (Err NoInput) (cond (needs_output k && is_none (output_in cs)) (Err NoOutput) (Ok (task_command k (task_of cs)))))
sound_checked k cs h true e = tt
sound_checked k cs h false e = sound_command k cs (is_task cs h e) (needs_output k && is_none (output_in cs)) refl

sound_task : (k : Kind) (r : Result (List Chosen) ℕ) → IfAllFine r → IfSound (task_if k r)
sound_task k (Err n) h = tt
sound_task k (Ok cs) h = sound_checked k cs h (count_by is_mesh cs == 0) refl

sound_gen_file : (n : ℕ) (ws : List (List ℕ)) → IfSound (gen_file n ws)
sound_gen_file n [] = tt
sound_gen_file n (w ∷ []) = tt
sound_gen_file n (w ∷ v ∷ ws) = tt

sound_output : (b : Bool) (r : Result Command WordFault) (e : WordFault) → IfSound r → IfSound (cond b r (Err e))
sound_output true r e h = h
sound_output false r e h = tt

sound_gen_output : (n : ℕ) (ws : List (List ℕ)) → IfSound (gen_output n ws)
sound_gen_output n [] = tt
sound_gen_output n (w ∷ ws) = sound_output (bytes_eq w (codes "-o")) (gen_file n ws) (BadWord 3) (sound_gen_file n ws)

sound_gen_numbered : (o : Option ℕ) (ws : List (List ℕ)) → IfSound (gen_numbered o ws)
sound_gen_numbered None ws = tt
sound_gen_numbered (Some n) ws = sound_gen_output n ws

sound_gen : (ws : List (List ℕ)) → IfSound (gen_of ws)
sound_gen [] = tt
sound_gen (w ∷ ws) = sound_gen_numbered (number_of 10 0 4294967295 w) ws

sound_by : (o : Option Kind) (ws : List (List ℕ)) → IfSound (command_by o ws)
sound_by None ws = tt
sound_by (Some kind.Slice) ws = sound_task kind.Slice (choices_of ws) (fine_choices ws)
sound_by (Some kind.Serial) ws = sound_task kind.Serial (choices_of ws) (fine_choices ws)
sound_by (Some kind.Check) ws = sound_task kind.Check (choices_of ws) (fine_choices ws)
sound_by (Some kind.Gen) ws = sound_gen ws

sound_words : (ws : List (List ℕ)) → IfSound (command_of ws)
unfolding command_of
sound_words [] = tt
sound_words (w ∷ ws) = sound_by (kind_of w) ws

-- the command that words give is sound
pub sound : (ws : List (List ℕ)) (c : Command) → command_of ws ≡ Ok c → IsSound c
sound ws c e = let Q : Result Command WordFault → Type 0 = IfSound in subst Q e (sound_words ws)
