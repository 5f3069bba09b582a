-- What stands read of words, and what a further piece makes of it.
use Rattle.std.proofs.Common.{ℕ, ◌≡◌, ◌+◌, ◌≤◌, Bool, true, false, cond, List, [], ◌∷◌, ◌++◌, Option, None, Result, Ok, Err, arith, refl, sym, ap, ◌∙◌, append_assoc}
use Rattle.std.specs.Prelude.{count_by, OnOk, is_err}
use Rattle.std.specs.List.{fold}
use Rattle.std.proofs.lemmas.List.Sums.{fold_push}
use Rattle.std.proofs.lemmas.Grind.{common_steps}
use Rattle.cli_words.specs.Choices.{Piece, Chosen, settings, mesh, extruder, everything, pair, output, workers, journal, nothing, cut, words_in, is_settings, is_mesh, choice_of, with_choice, read, choices_of}
use Rattle.cli_words.specs.Command.{Context, start, moved, items_of, all_items, workers_or, journal_or, output_or, output_in, is_none}
use Rattle.cli_words.specs.Inner.Drafts.{context_after, context_of, Adds}
use Rattle.cli_words.specs.declared.draft.Draft.{Draft}

-- these choices were made of the words before the rest
pub record IsRead (ws rest : List (List ℕ)) (at files meshes : ℕ) (done : List Chosen) : Type 0 where
  pub same : read (at + 2) done (cut None rest) ≡ choices_of ws
  pub files_is : files ≡ count_by is_settings done
  pub meshes_is : meshes ≡ count_by is_mesh done

pub begun : (ws : List (List ℕ)) → IsRead ws ws 0 0 0 []
begun ws = record { same = refl; files_is = refl; meshes_is = refl }

unrolled : (n : ℕ) (done : List Chosen) (p : Piece) (ps : List Piece) (r : Result Chosen ℕ) → choice_of n (count_by is_settings done) (count_by is_mesh done) p ≡ r → read n done (p ∷ ps) ≡ with_choice r (λ c. read (n + words_in p) (done ++ c ∷ []) ps)
unrolled n done p ps r e = ap (λ (x : Result Chosen ℕ). with_choice x (λ c. read (n + words_in p) (done ++ c ∷ []) ps)) e

counted : (q : Chosen → Bool) (done : List Chosen) (c : Chosen) → count_by q (done ++ c ∷ []) ≡ cond (q c) (count_by q done + 1) (count_by q done)
counted q done c = by (q c) refl
  where
    by : (b : Bool) → q c ≡ b → count_by q (done ++ c ∷ []) ≡ cond b (count_by q done + 1) (count_by q done)
    by true e = grind (arith, common_steps)
    by false e = grind (arith, common_steps)

pub goes_on : (ws rest rest' : List (List ℕ)) (at files meshes files' meshes' : ℕ) (done : List Chosen) (p : Piece) (c : Chosen) → IsRead ws rest at files meshes done → cut None rest ≡ p ∷ cut None rest' → choice_of (at + 2) files meshes p ≡ Ok c → files' ≡ cond (is_settings c) (files + 1) files → meshes' ≡ cond (is_mesh c) (meshes + 1) meshes → IsRead ws rest' (at + words_in p) files' meshes' (done ++ c ∷ [])
goes_on ws rest rest' at files meshes files' meshes' done p c s e f ef em =
    let g : choice_of (at + 2) (count_by is_settings done) (count_by is_mesh done) p ≡ Ok c = rw (← s.files_is, ← s.meshes_is) f in
    let u : read (at + 2) done (cut None rest) ≡ read (at + 2 + words_in p) (done ++ c ∷ []) (cut None rest') = ap (read (at + 2) done) e ∙ unrolled (at + 2) done p (cut None rest') (Ok c) g in
    let place : at + words_in p + 2 ≡ at + 2 + words_in p = omega arith in
    record {
      same = ap (λ (n : ℕ). read n (done ++ c ∷ []) (cut None rest')) place ∙ (sym u ∙ s.same);
      files_is = ef ∙ (ap (λ (n : ℕ). cond (is_settings c) (n + 1) n) s.files_is ∙ sym (counted is_settings done c));
      meshes_is = em ∙ (ap (λ (n : ℕ). cond (is_mesh c) (n + 1) n) s.meshes_is ∙ sym (counted is_mesh done c));
    }

pub ended : (ws : List (List ℕ)) (at files meshes : ℕ) (done : List Chosen) → IsRead ws [] at files meshes done → choices_of ws ≡ Ok done
ended ws at files meshes done s = sym s.same

pub output_in-push : (done : List Chosen) (c : Chosen) → output_in (done ++ c ∷ []) ≡ output_or (output_in done) c
output_in-push done c = fold_push output_or None done c

-- a survey's loop
pub record Surveyed (ws rest : List (List ℕ)) (at files meshes : ℕ) (lacks : Bool) : Type 0 where
  pub done : List Chosen
  pub is_read : IsRead ws rest at files meshes done
  pub lacks_is : lacks ≡ is_none (output_in done)

pub surveyed_more : (ws rest rest' : List (List ℕ)) (at files meshes files' meshes' : ℕ) (lacks lacks' : Bool) (p : Piece) (c : Chosen) → Surveyed ws rest at files meshes lacks → cut None rest ≡ p ∷ cut None rest' → choice_of (at + 2) files meshes p ≡ Ok c → files' ≡ cond (is_settings c) (files + 1) files → meshes' ≡ cond (is_mesh c) (meshes + 1) meshes → ((o : Option (List ℕ)) → lacks ≡ is_none o → lacks' ≡ is_none (output_or o c)) → Surveyed ws rest' (at + words_in p) files' meshes' lacks'
surveyed_more ws rest rest' at files meshes files' meshes' lacks lacks' p c s e f ef em el =
    record {
      done = s.done ++ c ∷ [];
      is_read = goes_on ws rest rest' at files meshes files' meshes' s.done p c s.is_read e f ef em;
      lacks_is = el (output_in s.done) s.lacks_is ∙ ap is_none (sym (output_in-push s.done c));
    }

-- a draft's loop
pub record Drafted (ws rest : List (List ℕ)) (at : ℕ) (d : Draft) : Type 0 where
  pub done : List Chosen
  pub is_read : IsRead ws rest at d.files d.meshes done
  pub workers : d.workers ≡ fold workers_or 4 done
  pub journal : d.journal ≡ fold journal_or false done
  pub out : d.out ≡ output_in done
  pub items : d.items ≡ all_items start done
  pub context : context_of d ≡ context_after done

all_items-push : (p : Context) (cs : List Chosen) (c : Chosen) → all_items p (cs ++ c ∷ []) ≡ all_items p cs ++ items_of (fold moved p cs) c
all_items-push p [] c = grind (arith, common_steps)
all_items-push p (x ∷ cs) c = ap (λ is. items_of p x ++ is) (all_items-push (moved p x) cs c) ∙ sym (append_assoc (items_of p x) (all_items (moved p x) cs) (items_of (fold moved (moved p x) cs) c))

moved-meshes : (p : Context) (c : Chosen) → (moved p c).meshes ≡ cond (is_mesh c) (p.meshes + 1) p.meshes
moved-meshes p (settings n) = refl
moved-meshes p (mesh n) = refl
moved-meshes p (extruder n) = refl
moved-meshes p everything = refl
moved-meshes p (pair k v) = refl
moved-meshes p (output n) = refl
moved-meshes p (workers n) = refl
moved-meshes p journal = refl
moved-meshes p nothing = refl

pub drafted_more : (ws rest rest' : List (List ℕ)) (at : ℕ) (d d' : Draft) (p : Piece) (c : Chosen) → Drafted ws rest at d → cut None rest ≡ p ∷ cut None rest' → choice_of (at + 2) d.files d.meshes p ≡ Ok c → Adds d d' c → Drafted ws rest' (at + words_in p) d'
drafted_more ws rest rest' at d d' p c s e f a =
    let m : d'.meshes ≡ cond (is_mesh c) (d.meshes + 1) d.meshes = ap (λ (q : Context). q.meshes) a.context ∙ moved-meshes (context_of d) c in
    record {
      done = s.done ++ c ∷ [];
      is_read = goes_on ws rest rest' at d.files d.meshes d'.files d'.meshes s.done p c s.is_read e f a.files m;
      workers = a.workers ∙ (ap (λ (n : ℕ). workers_or n c) s.workers ∙ sym (fold_push workers_or 4 s.done c));
      journal = a.journal ∙ (ap (λ (b : Bool). journal_or b c) s.journal ∙ sym (fold_push journal_or false s.done c));
      out = a.out ∙ (ap (λ (o : Option (List ℕ)). output_or o c) s.out ∙ sym (output_in-push s.done c));
      items = a.items ∙ (rw (s.items, s.context) (sym (all_items-push start s.done c)));
      context = a.context ∙ (ap (λ (q : Context). moved q c) s.context ∙ sym (fold_push moved start s.done c));
    }

pub count_few : (b : Bool) (n m : ℕ) → m ≡ cond b (n + 1) n → m ≤ n + 1
count_few true n m e = omega arith
count_few false n m e = omega arith

pub adds_meshes : (d d' : Draft) (c : Chosen) → Adds d d' c → d'.meshes ≡ cond (is_mesh c) (d.meshes + 1) d.meshes
adds_meshes d d' c a = ap (λ (q : Context). q.meshes) a.context ∙ moved-meshes (context_of d) c

pub if_ok : {T E A : Type 0} (r : Result T E) → OnOk r A → is_err r ≡ false → A
if_ok (Ok x) a e = a
if_ok (Err x) a e = absurd (cc)
