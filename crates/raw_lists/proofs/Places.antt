-- Which places of a block hold a value, after one of them is written or read.
use Rattle.std.proofs.Common.{◌≡◌, ℕ, zero, suc, ◌+◌, ◌-◌, ◌<◌, ◌≤◌, ◌⊎◌, inl, inr, List, [], ◌∷◌, ◌++◌, Option, Some, None, refl, sym, ap, ◌∙◌, subst, arith, length, get_or, set, slice_get, length-append}
use Rattle.raw_lists.specs.Queue.{Queue, Slid}
use Rattle.raw_lists.specs.Places.{laid, values, IsFilled, IsBlock}
use Rattle.raw_lists.specs.Blocks.{IsPopped}

pub queue_is : {T : Type 0} {xs ys : List T} {m n : ℕ} → xs ≡ ys → m ≡ n → ◌≡◌ {A = Queue T} (record { items = xs; room = m }) (record { items = ys; room = n })
queue_is e f = λ i. record { items = e i; room = f i }

pub slid_is : {T : Type 0} {k l : ℕ} {xs ys : List T} {m n : ℕ} → k ≡ l → xs ≡ ys → m ≡ n → ◌≡◌ {A = Slid T} (record { before = k; items = xs; room = m }) (record { before = l; items = ys; room = n })
slid_is d e f = λ i. record { before = d i; items = e i; room = f i }

module _ {T : Type 0} where
  pub values-laid : (start : ℕ) (items : List T) (rest : ℕ) → values (laid start items rest) ≡ items
  unfolding laid values
  values-laid zero [] zero = refl
  values-laid zero [] (suc rest) = values-laid zero [] rest
  values-laid zero (item ∷ items) rest = ap (λ l. item ∷ l) (values-laid zero items rest)
  values-laid (suc start) items rest = values-laid start items rest

  pub length-laid : (start : ℕ) (items : List T) (rest : ℕ) → length (laid start items rest) ≡ start + (length items + rest)
  unfolding laid
  length-laid zero [] zero = refl
  length-laid zero [] (suc rest) = ap suc (length-laid zero [] rest) ∙ omega arith
  length-laid zero (item ∷ items) rest = ap suc (length-laid zero items rest) ∙ omega arith
  length-laid (suc start) items rest = ap suc (length-laid start items rest) ∙ omega arith

  pub laid-empty : (start rest : ℕ) → laid {T = T} start [] rest ≡ laid zero [] (start + rest)
  unfolding laid
  laid-empty zero rest = ap (λ n. laid zero [] n) (omega arith)
  laid-empty (suc start) rest = let more : suc (start + rest) ≡ suc start + rest = omega arith in ap (λ l. None ∷ l) (laid-empty start rest) ∙ ap (λ n. laid zero [] n) more

  pub laid-one : laid {T = T} 0 [] 1 ≡ None ∷ []
  unfolding laid
  laid-one = refl

  -- the place behind the last item
  pub behind : (start : ℕ) (items : List T) (rest at : ℕ) → at ≡ start + length items → get_or (laid start items rest) at None ≡ None
  unfolding laid
  behind zero [] zero at e = refl
  behind zero [] (suc rest) zero e = refl
  behind zero [] (suc rest) (suc at) e = absurd (omega arith)
  behind zero (item ∷ items) rest zero e = absurd (omega arith)
  behind zero (item ∷ items) rest (suc at) e = behind zero items rest at (omega arith)
  behind (suc start) items rest zero e = absurd (omega arith)
  behind (suc start) items rest (suc at) e = behind start items rest at (omega arith)

  pub pushed-laid : (start : ℕ) (items : List T) (rest at : ℕ) (item : T) → at ≡ start + length items
      → set (laid start items (suc rest)) at (Some item) ≡ laid start (items ++ item ∷ []) rest
  unfolding laid
  pushed-laid zero [] rest zero item e = refl
  pushed-laid zero [] rest (suc at) item e = absurd (omega arith)
  pushed-laid zero (first ∷ items) rest zero item e = absurd (omega arith)
  pushed-laid zero (first ∷ items) rest (suc at) item e = ap (λ l. Some first ∷ l) (pushed-laid zero items rest at item (omega arith))
  pushed-laid (suc start) items rest zero item e = absurd (omega arith)
  pushed-laid (suc start) items rest (suc at) item e = ap (λ l. None ∷ l) (pushed-laid start items rest at item (omega arith))

  pub popped-laid : (start : ℕ) (item : T) (items : List T) (rest : ℕ) → set (laid start (item ∷ items) rest) start None ≡ laid (suc start) items rest
  unfolding laid
  popped-laid zero item items rest = refl
  popped-laid (suc start) item items rest = ap (λ l. None ∷ l) (popped-laid start item items rest)

  -- the place before the first item
  pub ahead : (start : ℕ) (items : List T) (rest : ℕ) → get_or (laid (suc start) items rest) start None ≡ None
  unfolding laid
  ahead zero items rest = refl
  ahead (suc start) items rest = ahead start items rest

  pub fronted-laid : (start : ℕ) (item : T) (items : List T) (rest : ℕ) → set (laid (suc start) items rest) start (Some item) ≡ laid start (item ∷ items) rest
  unfolding laid
  fronted-laid zero item items rest = refl
  fronted-laid (suc start) item items rest = ap (λ l. None ∷ l) (fronted-laid start item items rest)

  pub get-laid : (start : ℕ) (items : List T) (rest index at : ℕ) → at ≡ start + index → index < length items → get_or (laid start items rest) at None ≡ slice_get items index
  unfolding laid
  get-laid zero [] rest index at e lt = absurd (omega arith)
  get-laid zero (item ∷ items) rest zero zero e lt = refl
  get-laid zero (item ∷ items) rest zero (suc at) e lt = absurd (omega arith)
  get-laid zero (item ∷ items) rest (suc index) zero e lt = absurd (omega arith)
  get-laid zero (item ∷ items) rest (suc index) (suc at) e lt = get-laid zero items rest index at (omega arith) (omega arith)
  get-laid (suc start) items rest index zero e lt = absurd (omega arith)
  get-laid (suc start) items rest index (suc at) e lt = get-laid start items rest index at (omega arith) lt

  pub filled-within : (places : List (Option T)) (index : ℕ) (item : T) → get_or places index None ≡ Some item → index < length places
  filled-within [] index item e = cc
  filled-within (place ∷ places) zero item e = omega arith
  filled-within (place ∷ places) (suc index) item e = omega (arith, filled-within places index item e)

  none_or_first : (items : List T) → 0 < length items → (item : T) × (rest : List T) × (items ≡ item ∷ rest)
  none_or_first [] some = absurd (omega arith)
  none_or_first (item ∷ rest) some = (item, rest, refl)

  there : (items : List T) (index : ℕ) → index < length items → (item : T) × (slice_get items index ≡ Some item)
  there [] index lt = absurd (omega arith)
  there (item ∷ items) zero lt = (item, refl)
  there (item ∷ items) (suc index) lt = there items index (omega arith)

  -- places laid out with these items are a block's
  pub is_block : (start count rest : ℕ) (items : List T) (places : List (Option T)) → places ≡ laid start items rest → count ≡ length items → start + count + rest ≡ 32
      → IsBlock start count places × (values places ≡ items)
  is_block start count rest items places e counted all =
      let held : values places ≡ items = ap values e ∙ values-laid start items rest in let left : rest ≡ 32 - (start + count) = omega arith in
      (record { laid_out = e ∙ ap (λ n. laid start items n) left ∙ ap (λ l. laid start l (32 - (start + count))) (sym held); counted = counted ∙ ap length (sym held); within = omega arith }, held)

  pub block_new : (places : List (Option T)) → places ≡ laid 0 [] 32 → IsBlock 0 0 places × (values places ≡ [])
  block_new places e = is_block 0 0 32 [] places e refl (omega arith)

  module _ (start count : ℕ) (places : List (Option T)) (block : IsBlock start count places) where
    rest : ℕ
    rest = 32 - (start + count)

    pub long : length places ≡ 32
    long = ap length block.laid_out ∙ length-laid start (values places) (32 - (start + count)) ∙ (let n = block.counted in let w = block.within in omega arith)

    pub all_empty : values places ≡ [] → places ≡ laid 0 [] 32
    all_empty none = let n = block.counted ∙ ap length none in let w = block.within in let all : start + (32 - (start + count)) ≡ 32 = omega arith in
        block.laid_out ∙ ap (λ l. laid start l (32 - (start + count))) none ∙ laid-empty start (32 - (start + count)) ∙ ap (λ n. laid 0 [] n) all

    pub block_cleared : values places ≡ [] → IsBlock 0 count places
    block_cleared none = let n = block.counted ∙ ap length none in (is_block 0 count 32 [] places (all_empty none) n (omega arith)).0

    pub room_behind : 1 ≤ 32 - (start + count) → (start + count < length places) × (get_or places (start + count) None ≡ None)
    room_behind room = let l = long in (omega arith, ap (λ l. get_or l (start + count) None) block.laid_out ∙ behind start (values places) (32 - (start + count)) (start + count) (ap (λ n. start + n) block.counted))

    pub block_pushed : 1 ≤ 32 - (start + count) → (item : T) (new : List (Option T)) → new ≡ set places (start + count) (Some item)
        → IsBlock start (count + 1) new × (values new ≡ values places ++ item ∷ [])
    block_pushed room item new e =
        let one : 32 - (start + count) ≡ suc (31 - (start + count)) = omega arith in
        let here : places ≡ laid start (values places) (suc (31 - (start + count))) = block.laid_out ∙ ap (λ n. laid start (values places) n) one in
        let n = block.counted in
        is_block start (count + 1) (31 - (start + count)) (values places ++ item ∷ []) new
        (e ∙ ap (λ l. set l (start + count) (Some item)) here ∙ pushed-laid start (values places) (31 - (start + count)) (start + count) item (ap (λ k. start + k) block.counted))
        (omega (arith, length-append (values places) (item ∷ []))) (omega arith)

    pub first_filled : 0 < length (values places) → IsFilled places start
    first_filled some = let at = there (values places) 0 some in
        (at.0, ap (λ l. get_or l start None) block.laid_out ∙ get-laid start (values places) (32 - (start + count)) 0 start (omega arith) some ∙ at.1)

    pub block_popped : (item : T) (new : List (Option T)) → 0 < length (values places) → get_or places start None ≡ Some item → new ≡ set places start None
        → IsBlock (start + 1) (count - 1) new × (values places ≡ item ∷ values new)
    block_popped item new some got e =
        let f = none_or_first (values places) some in
        let here : places ≡ laid start (f.0 ∷ f.1) (32 - (start + count)) = block.laid_out ∙ ap (λ l. laid start l (32 - (start + count))) f.2 in
        let n : count ≡ suc (length f.1) = block.counted ∙ ap length f.2 in let w = block.within in
        let made = is_block (suc start) (count - 1) (32 - (start + count)) f.1 new (e ∙ ap (λ l. set l start None) here ∙ popped-laid start f.0 f.1 (32 - (start + count))) (omega arith) (omega arith) in
        let same : Some f.0 ≡ Some item = sym (get-laid start (f.0 ∷ f.1) (32 - (start + count)) 0 start (omega arith) (omega arith)) ∙ ap (λ l. get_or l start None) (sym here) ∙ got in
        let one : suc start ≡ start + 1 = omega arith in let is : f.0 ≡ item = cc in
        (subst (λ k. IsBlock k (count - 1) new) one made.0, f.2 ∙ (λ i. is i ∷ sym made.1 i))

    pub filled_at : (index : ℕ) → index < length (values places) → IsFilled places (start + index)
    filled_at index lt = let at = there (values places) index lt in
        (at.0, ap (λ l. get_or l (start + index) None) block.laid_out ∙ get-laid start (values places) (32 - (start + count)) index (start + index) refl lt ∙ at.1)

    pub shown_at : (index : ℕ) → index < length (values places) → get_or places (start + index) None ≡ slice_get (values places) index
    shown_at index lt = ap (λ l. get_or l (start + index) None) block.laid_out ∙ get-laid start (values places) (32 - (start + count)) index (start + index) refl lt

pub length-empty : (T : Type 0) (rest : ℕ) → length (laid {T = T} zero [] rest) ≡ rest
length-empty T rest = length-laid zero [] rest ∙ omega arith

pub no_items : {T : Type 0} (items : List T) → length items ≡ 0 → items ≡ []
no_items [] none = refl
no_items (item ∷ items) none = absurd (omega arith)

-- a block after its first item was taken out, which begins again where it has no other
pub block_after : {T : Type 0} (start count next : ℕ) (places : List (Option T)) → IsBlock start count places → (item : T) (new : List (Option T)) → 0 < length (values places)
    → get_or places start None ≡ Some item → new ≡ set places start None → ((next ≡ 0) × (count - 1 ≡ 0)) ⊎ ((next ≡ start + 1) × (1 ≤ count - 1))
    → IsBlock next (count - 1) new × IsPopped (record { items = values places; room = 32 - (start + count) }) item (record { items = values new; room = 32 - (next + (count - 1)) })
block_after start count next places block item new some got e after =
    let popped = block_popped start count places block item new some got e in let n = block.counted in let m = popped.0.counted in let w = popped.0.within in
    elim after [
      | inl none ↦ let first = none.0 in let left = none.1 in let nothing = no_items (values new) (sym m ∙ left) in
          (subst (λ k. IsBlock k (count - 1) new) (sym first) (block_cleared (start + 1) (count - 1) new popped.0 nothing), record { items = popped.1; room = inr (queue_is nothing (omega arith)) })
      | inr more ↦ let first = more.0 in let left = more.1 in
          (subst (λ k. IsBlock k (count - 1) new) (sym first) popped.0, record { items = popped.1; room = inl (omega arith, omega arith) })
    ]
