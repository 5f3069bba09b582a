-- Marks of cells, and edges whose boxes touch no marked one.
use Rattle.std.proofs.Common.{◌≡◌, ◌<◌, ◌+◌, ℕ, Bool, true, false, List, [], ◌∷◌, ◌++◌, length, get_or, inl, inr, ◌⊎◌, arith, refl, sym, ap, ◌∙◌, subst}
use Rattle.std.proofs.Math.ListN.{get_or-append}
use Rattle.std.proofs.lemmas.List.{get_or_push}
use Rattle.slice_base.specs.declared.points.Edge.{Edge}
use Rattle.clip_bands.specs.Indices.{touches}
use Rattle.edge_cut.specs.declared.passes.Marked.{Marked}
use Rattle.edge_cut.specs.declared.boxes.Grid.{Grid}
use Rattle.edge_cut.specs.declared.marks.Patch.{Patch}
use Rattle.edge_cut.specs.Inner.Heights.{height_of, width_of}
use Rattle.edge_cut.specs.Inner.Indices.{nothing}
use Rattle.edge_cut.specs.Inner.Marks.{patch_of, place_of, KeepsMarks, PatchIs, AreMarked, AreApart, IsFar}
use Rattle.edge_cut.proofs.Compared.{below-or-last}
use Rattle.edge_cut.proofs.InColumns.{common}

patch-kept : (old new : List Bool) (p : Patch) → KeepsMarks old new → PatchIs true old p → PatchIs true new p
patch-kept old new p kept is c from to d first last = kept (place_of c d) (is c from to d first last)

-- the boxes of all new edges up to one are marked, and then that one
pub marked-more : (g : Grid) (all : List Marked) (news old new : List Bool) (index : ℕ) → KeepsMarks old new → ((j : ℕ) → j < index → get_or news j false ≡ true → PatchIs true old (patch_of g (get_or all j nothing).edge)) → (get_or news index false ≡ true → PatchIs true new (patch_of g (get_or all index nothing).edge)) → (j : ℕ) → j < index + 1 → get_or news j false ≡ true → PatchIs true new (patch_of g (get_or all j nothing).edge)
marked-more g all news old new index kept so_far here j lt = pick (below-or-last j index lt)
  where
    pick : (j < index) ⊎ (j ≡ index) → get_or news j false ≡ true → PatchIs true new (patch_of g (get_or all j nothing).edge)
    pick (inl h) = λ is. patch-kept old new (patch_of g (get_or all j nothing).edge) kept (so_far j h is)
    pick (inr h) = subst (λ (n : ℕ). get_or news n false ≡ true → PatchIs true new (patch_of g (get_or all n nothing).edge)) (sym h) here

-- boxes that touch share a cell

apart-by : (g : Grid) (e f : Edge) (cells : List Bool) (a b : Bool) → PatchIs false cells (patch_of g e) → PatchIs true cells (patch_of g f) → touches (width_of e) (width_of f) ≡ a → touches (height_of e) (height_of f) ≡ b → AreApart e f
apart-by g e f cells false b clear marked beside above = inl beside
apart-by g e f cells true false clear marked beside above = inr above
apart-by g e f cells true true clear marked beside above =
    let x = common g.wide false 0 0 e f beside in
    let y = common g.high true 0 0 e f above in
    let is : get_or cells (place_of x.at y.at) false ≡ false = clear x.at x.after_first x.before_first y.at y.after_first y.before_first in
    let isnt : get_or cells (place_of x.at y.at) false ≡ true = marked x.at x.after_second x.before_second y.at y.after_second y.before_second in
    absurd (cc)

pub far-by : (g : Grid) (all : List Marked) (news cells : List Bool) (i : ℕ) → AreMarked g all news cells → get_or news i false ≡ false → PatchIs false cells (patch_of g (get_or all i nothing).edge) → IsFar all news i
far-by g all news cells i marked old clear = record {
  old = old;
  apart = λ j below new.
      let e = (get_or all i nothing).edge in
      let f = (get_or all j nothing).edge in
      apart-by g e f cells (touches (width_of e) (width_of f)) (touches (height_of e) (height_of f)) clear (marked j below new) refl refl;
}

-- one edge more is told
pub far-more : (all : List Marked) (news old new : List Bool) (b : Bool) (index : ℕ) → length old ≡ index → new ≡ old ++ b ∷ [] → ((i : ℕ) → i < index → get_or old i false ≡ false → IsFar all news i) → (b ≡ false → IsFar all news index) → (i : ℕ) → i < index + 1 → get_or new i false ≡ false → IsFar all news i
far-more all news old new b index count is so_far here i lt = pick (below-or-last i index lt)
  where
    pick : (i < index) ⊎ (i ≡ index) → get_or new i false ≡ false → IsFar all news i
    pick (inl h) far = so_far i h (sym (get_or-append old (b ∷ []) false i (omega arith)) ∙ (ap (λ (bs : List Bool). get_or bs i false) (sym is) ∙ far))
    pick (inr h) far = subst (λ (n : ℕ). IsFar all news n) (sym h) (here (sym (get_or_push old b false index count) ∙ (ap (λ (bs : List Bool). get_or bs index false) (sym is) ∙ subst (λ (n : ℕ). get_or new n false ≡ false) h far)))
