-- The file names of a command are words.
use Rattle.std.proofs.Common.{ℕ, zero, suc, ◌≡◌, ◌+◌, Bool, true, false, cond, List, [], ◌∷◌, ◌++◌, map, Option, Some, None, Result, Ok, Err, arith, subst, String, Global}
use Rattle.std.specs.Prelude.{count_by, string_bytes, option_to_list, position, bytes_eq, codes, ◌==◌, ◌&&◌}
use Rattle.std.specs.List.{All, AllByRecursion, fold}
use Rattle.std.specs.Str.{IsUtf8}
use Rattle.std.proofs.lemmas.Str.{IsUtf8-string_bytes}
use Rattle.cli_words.specs.Choices.{Piece, alone, taking, lacking, Chosen, settings, mesh, extruder, everything, pair, output, workers, journal, nothing, opened, cut, taker_of, words_in, is_settings, is_mesh, is_full, or_fault, number_of, extruder_if, workers_if, numbered, alone_of, pair_at, taken_of, choice_of, with_choice, read, choices_of}
use Rattle.cli_words.specs.Command.{Context, start, moved, items_of, all_items, output_or, output_in, is_none, task_of, kind_of, needs_output, task_command, task_if, gen_file, gen_output, gen_numbered, gen_of, command_by, command_of, item_names, names_of}
use Rattle.cli_words.specs.declared.choice.Taker.{Taker}
use Rattle.cli_words.specs.declared.choice.Taker.TheVariants as taker
use Rattle.cli_words.specs.declared.read.Kind.{Kind}
use Rattle.cli_words.specs.declared.read.Kind.TheVariants as kind
use Rattle.cli_words.specs.declared.command.Command.{Command}
use Rattle.cli_words.specs.declared.command.WordFault.{WordFault}
use Rattle.cli_words.specs.declared.command.WordFault.TheVariants.{BadWord, NoInput, NoOutput}

-- P holds of the words of each piece, and of the file names of each choice
module _ (P : List ℕ → Type 0) where
  abbrev pub InPiece : Piece → Type 0
  InPiece (alone w) = P w
  InPiece (taking t w) = P w
  InPiece lacking = Unit {0}

  abbrev pub InChoice : Chosen → Type 0
  InChoice (settings w) = P w
  InChoice (mesh w) = P w
  InChoice (output w) = P w
  InChoice c = Unit {0}

  abbrev pub InOption : Option (List ℕ) → Type 0
  InOption None = Unit {0}
  InOption (Some w) = P w

  both : {X : Type 0} (Q : X → Type 0) (xs ys : List X) → AllByRecursion Q xs → AllByRecursion Q ys → AllByRecursion Q (xs ++ ys)
  both Q [] ys p q = q
  both Q (x ∷ xs) ys p q = (p.0, both Q xs ys p.1 q)

  first_piece : (w : List ℕ) (o : Option Taker) → P w → AllByRecursion InPiece (opened w o)
  first_piece w None p = (p, tt)
  first_piece w (Some t) p = tt

  in_pieces : (o : Option Taker) (ws : List (List ℕ)) → AllByRecursion P ws → AllByRecursion InPiece (cut o ws)
  in_pieces None [] p = tt
  in_pieces (Some t) [] p = (tt, tt)
  in_pieces None (w ∷ ws) p = both InPiece (opened w (taker_of w)) (cut (taker_of w) ws) (first_piece w (taker_of w) p.0) (in_pieces (taker_of w) ws p.1)
  in_pieces (Some t) (w ∷ ws) p = (p.0, in_pieces None ws p.1)

  abbrev IfChoice : Option Chosen → Type 0
  IfChoice None = Unit {0}
  IfChoice (Some c) = InChoice c

  in_cond : (b : Bool) (x y : Option Chosen) → IfChoice x → IfChoice y → IfChoice (cond b x y)
  in_cond true x y p q = p
  in_cond false x y p q = q

  in_extruder : (o : Option ℕ) → IfChoice (extruder_if o)
  in_extruder None = tt
  in_extruder (Some n) = tt

  in_workers : (o : Option ℕ) → IfChoice (workers_if o)
  in_workers None = tt
  in_workers (Some n) = tt

  in_numbered : (w : List ℕ) → IfChoice (numbered w)
  in_numbered [] = tt
  in_numbered (a ∷ []) = tt
  in_numbered (a ∷ b ∷ ds) =
      in_cond (a == 45 && b == 101) (extruder_if (number_of 1 0 7 ds)) (cond (a == 45 && b == 109) (workers_if (number_of 2 1 64 ds)) None) (in_extruder (number_of 1 0 7 ds))
      (in_cond (a == 45 && b == 109) (workers_if (number_of 2 1 64 ds)) None (in_workers (number_of 2 1 64 ds)) tt)

  in_alone : (w : List ℕ) → IfChoice (alone_of w)
  in_alone w =
      let e = cond (bytes_eq w (codes "--journal")) (Some journal) (numbered w) in
      let d = cond (bytes_eq w (codes "-p")) (Some nothing) e in
      let c = cond (bytes_eq w (codes "-v")) (Some nothing) d in
      in_cond (bytes_eq w (codes "-g")) (Some everything) c tt
      (in_cond (bytes_eq w (codes "-v")) (Some nothing) d tt
      (in_cond (bytes_eq w (codes "-p")) (Some nothing) e tt
      (in_cond (bytes_eq w (codes "--journal")) (Some journal) (numbered w) tt (in_numbered w))))

  in_pair : (w : List ℕ) (o : Option ℕ) → IfChoice (pair_at w o)
  in_pair w None = tt
  in_pair w (Some i) = tt

  in_taken : (t : Taker) (w : List ℕ) → P w → IfChoice (taken_of t w)
  in_taken taker.Settings w p = p
  in_taken taker.Mesh w p = p
  in_taken taker.Output w p = p
  in_taken taker.Pair w p = in_pair w (position (λ c. c == 61) w)

  abbrev InResult : Result Chosen ℕ → Type 0
  InResult (Ok c) = InChoice c
  InResult (Err n) = Unit {0}

  in_or_fault : (n : ℕ) (o : Option Chosen) → IfChoice o → InResult (or_fault n o)
  in_or_fault n None p = tt
  in_or_fault n (Some c) p = p

  in_full : (b : Bool) (n : ℕ) (r : Result Chosen ℕ) → InResult r → InResult (cond b (Err n) r)
  in_full true n r p = tt
  in_full false n r p = p

  in_choice : (n files meshes : ℕ) (p : Piece) → InPiece p → InResult (choice_of n files meshes p)
  in_choice n files meshes lacking h = tt
  in_choice n files meshes (alone w) h = in_or_fault n (alone_of w) (in_alone w)
  in_choice n files meshes (taking t w) h = in_full (is_full t files meshes) n (or_fault (n + 1) (taken_of t w)) (in_or_fault (n + 1) (taken_of t w) (in_taken t w h))

  abbrev InAll : Result (List Chosen) ℕ → Type 0
  InAll (Ok cs) = AllByRecursion InChoice cs
  InAll (Err n) = Unit {0}

  in_then : (r : Result Chosen ℕ) (f : Chosen → Result (List Chosen) ℕ) → InResult r → ((c : Chosen) → InChoice c → InAll (f c)) → InAll (with_choice r f)
  in_then (Err n) f h next = tt
  in_then (Ok c) f h next = next c h

  in_read : (n : ℕ) (done : List Chosen) (ps : List Piece) → AllByRecursion InChoice done → AllByRecursion InPiece ps → InAll (read n done ps)
  in_read n done [] h g = h
  in_read n done (p ∷ ps) h g =
      in_then (choice_of n (count_by is_settings done) (count_by is_mesh done) p) (λ c. read (n + words_in p) (done ++ c ∷ []) ps)
      (in_choice n (count_by is_settings done) (count_by is_mesh done) p g.0)
      (λ c k. in_read (n + words_in p) (done ++ c ∷ []) ps (both InChoice done (c ∷ []) h (k, tt)) g.1)

  in_choices : (ws : List (List ℕ)) → AllByRecursion P ws → InAll (choices_of ws)
  in_choices ws h = in_read 2 [] (cut None ws) tt (in_pieces None ws h)

  output_step : (o : Option (List ℕ)) (c : Chosen) → InOption o → InChoice c → InOption (output_or o c)
  output_step o (settings w) h k = h
  output_step o (mesh w) h k = h
  output_step o (extruder n) h k = h
  output_step o everything h k = h
  output_step o (pair a b) h k = h
  output_step o (output w) h k = k
  output_step o (workers n) h k = h
  output_step o journal h k = h
  output_step o nothing h k = h

  in_output : (o : Option (List ℕ)) (cs : List Chosen) → InOption o → AllByRecursion InChoice cs → InOption (fold output_or o cs)
  in_output o [] h k = h
  in_output o (c ∷ cs) h k = in_output (output_or o c) cs (output_step o c h k.0) k.1

  in_list : (o : Option (List ℕ)) → InOption o → AllByRecursion P (option_to_list o)
  in_list None h = tt
  in_list (Some w) h = (h, tt)

  in_item : (p : Context) (c : Chosen) (cs : List Chosen) → InChoice c → AllByRecursion P (item_names (all_items (moved p c) cs)) → AllByRecursion P (item_names (items_of p c ++ all_items (moved p c) cs))
  in_item p (settings w) cs h k = (h, k)
  in_item p (mesh w) cs h k = (h, k)
  in_item p (extruder n) cs h k = k
  in_item p everything cs h k = k
  in_item p (pair a b) cs h k = k
  in_item p (output w) cs h k = k
  in_item p (workers n) cs h k = k
  in_item p journal cs h k = k
  in_item p nothing cs h k = k

  in_items : (p : Context) (cs : List Chosen) → AllByRecursion InChoice cs → AllByRecursion P (item_names (all_items p cs))
  in_items p [] h = tt
  in_items p (c ∷ cs) h = in_item p c cs h.0 (in_items (moved p c) cs h.1)

  abbrev InCommand : Result Command WordFault → Type 0
  InCommand (Ok c) = AllByRecursion P (names_of c)
  InCommand (Err e) = Unit {0}

  in_task_command : (k : Kind) (cs : List Chosen) → AllByRecursion InChoice cs → AllByRecursion P (names_of (task_command k (task_of cs)))
  in_task_command kind.Slice cs h = both P (option_to_list (output_in cs)) (item_names (all_items start cs)) (in_list (output_in cs) (in_output None cs tt h)) (in_items start cs h)
  in_task_command kind.Serial cs h = both P (option_to_list (output_in cs)) (item_names (all_items start cs)) (in_list (output_in cs) (in_output None cs tt h)) (in_items start cs h)
  in_task_command kind.Check cs h = both P (option_to_list (output_in cs)) (item_names (all_items start cs)) (in_list (output_in cs) (in_output None cs tt h)) (in_items start cs h)
  in_task_command kind.Gen cs h = both P (option_to_list (output_in cs)) (item_names (all_items start cs)) (in_list (output_in cs) (in_output None cs tt h)) (in_items start cs h)

  in_fault : (b : Bool) (e : WordFault) (r : Result Command WordFault) → InCommand r → InCommand (cond b (Err e) r)
  in_fault true e r h = tt
  in_fault false e r h = h

  in_task : (k : Kind) (r : Result (List Chosen) ℕ) → InAll r → InCommand (task_if k r)
  in_task k (Err n) h = tt
  in_task k (Ok cs) h =
      let r : Result Command WordFault = Ok (task_command k (task_of cs)) in
      in_fault (count_by is_mesh cs == 0) NoInput (cond (needs_output k && is_none (output_in cs)) (Err NoOutput) r)
      (in_fault (needs_output k && is_none (output_in cs)) NoOutput r (in_task_command k cs h))

  in_gen_file : (n : ℕ) (ws : List (List ℕ)) → AllByRecursion P ws → InCommand (gen_file n ws)
  in_gen_file n [] h = tt
  in_gen_file n (w ∷ []) h = (h.0, tt)
  in_gen_file n (w ∷ v ∷ ws) h = tt

  otherwise : (b : Bool) (e : WordFault) (r : Result Command WordFault) → InCommand r → InCommand (cond b r (Err e))
  otherwise true e r h = h
  otherwise false e r h = tt

  in_gen_output : (n : ℕ) (ws : List (List ℕ)) → AllByRecursion P ws → InCommand (gen_output n ws)
  in_gen_output n [] h = tt
  in_gen_output n (w ∷ ws) h = otherwise (bytes_eq w (codes "-o")) (BadWord 3) (gen_file n ws) (in_gen_file n ws h.1)

  in_gen_numbered : (o : Option ℕ) (ws : List (List ℕ)) → AllByRecursion P ws → InCommand (gen_numbered o ws)
  in_gen_numbered None ws h = tt
  in_gen_numbered (Some n) ws h = in_gen_output n ws h

  in_gen : (ws : List (List ℕ)) → AllByRecursion P ws → InCommand (gen_of ws)
  in_gen [] h = tt
  in_gen (w ∷ ws) h = in_gen_numbered (number_of 10 0 4294967295 w) ws h.1

  in_command_by : (o : Option Kind) (ws : List (List ℕ)) → AllByRecursion P ws → InCommand (command_by o ws)
  in_command_by None ws h = tt
  in_command_by (Some kind.Slice) ws h = in_task kind.Slice (choices_of ws) (in_choices ws h)
  in_command_by (Some kind.Serial) ws h = in_task kind.Serial (choices_of ws) (in_choices ws h)
  in_command_by (Some kind.Check) ws h = in_task kind.Check (choices_of ws) (in_choices ws h)
  in_command_by (Some kind.Gen) ws h = in_gen ws h

  pub in_command : (ws : List (List ℕ)) → AllByRecursion P ws → InCommand (command_of ws)
  unfolding command_of
  in_command [] h = tt
  in_command (w ∷ ws) h = in_command_by (kind_of w) ws h.1

all_from : (P : List ℕ → Type 0) (xs : List (List ℕ)) → AllByRecursion P xs → All P xs
all_from P [] h k d lt = absurd (omega arith)
all_from P (x ∷ xs) h zero d lt = h.0
all_from P (x ∷ xs) h (suc k) d lt = all_from P xs h.1 k d (omega arith)

all_utf8 : (ss : List (String Global)) → AllByRecursion IsUtf8 (map string_bytes ss)
all_utf8 [] = tt
all_utf8 (s ∷ ss) = (IsUtf8-string_bytes s, all_utf8 ss)

pub names_utf8 : (ss : List (String Global)) (c : Command) → command_of (map string_bytes ss) ≡ Ok c → All IsUtf8 (names_of c)
names_utf8 ss c e =
    all_from IsUtf8 (names_of c) (let Q : Result Command WordFault → Type 0 = InCommand IsUtf8 in subst Q e (in_command IsUtf8 (map string_bytes ss) (all_utf8 ss)))
