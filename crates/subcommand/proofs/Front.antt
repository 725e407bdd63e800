-- A header of whole blocks that has END ends where it does, whatever stands behind it.
-- Assumes nothing.
use Rattle.std.proofs.Common.{ℕ, ◌≡◌, ◌+◌, ◌*◌, ◌/◌, ◌%◌, ◌<◌, ◌≤◌, true, List, [], ◌∷◌, ◌++◌, length, take, drop}
use Rattle.std.proofs.Common.{refl, sym, ap, ◌∙◌, arith, length-append, length-drop}
use Rattle.std.proofs.lemmas.List.{length-take-le, get_or-take, take-append-le, drop-append-le, take-append-drop}
use Rattle.std.proofs.lemmas.List.{take_at, drop_at, ext_get_or}
use borrow.Author.Tests.{lt-ltb}
use Rattle.ascii.proofs.Cases.{either}
use Rattle.card.specs.Record.{card_at, is_end}
use Rattle.header.specs.Records.{records, has_end, before_end, header_len, header_of, data_of}
use Rattle.header.proofs.Ends.{record_count, record_at}
use Rattle.header.proofs.Parted.{header_inside}

-- records that have END, with others behind them
has_front : (rs qs : List (List ℕ)) → has_end rs ≡ true → has_end (rs ++ qs) ≡ true
unfolding has_end
has_front [] qs e = cc
has_front (r ∷ rs) qs e = either (is_end r) (λ t. rw t refl) (λ t. rw t (has_front rs qs (rw t at e)))

before_front : (rs qs : List (List ℕ)) → has_end rs ≡ true → before_end (rs ++ qs) ≡ before_end rs
unfolding has_end before_end
before_front [] qs e = cc
before_front (r ∷ rs) qs e =
    either (is_end r)
    (λ t. rw t refl)
    (λ t. rw t (ap (λ (l : List (List ℕ)). r ∷ l) (before_front rs qs (rw t at e))))

before_fewer : (rs : List (List ℕ)) → has_end rs ≡ true → length (before_end rs) < length rs
unfolding has_end before_end
before_fewer [] e = cc
before_fewer (r ∷ rs) e =
    either (is_end r)
    (λ t. rw t (omega arith))
    (λ t. rw t (omega (arith, before_fewer rs (rw t at e))))

module _ (h x : List ℕ) where
  -- the whole records of the header stay
  card_front : (k : ℕ) → k < length h / 80 → card_at (h ++ x) k ≡ card_at h k
  unfolding card_at
  card_front k p =
      let longer : k < length (h ++ x) / 80 = omega (arith, p, length-append h x) in
      let start : k * 80 ≤ length h = omega (arith, p) in
      let end : 80 ≤ length (drop (k * 80) h) = omega (arith, p, length-drop (k * 80) h) in
      rw (lt-ltb k (length (h ++ x) / 80) longer, lt-ltb k (length h / 80) p, drop-append-le (k * 80) h x start)
      (take-append-le 80 (drop (k * 80) h) x end)

  fewer : length h / 80 ≤ length (records (h ++ x))
  fewer = omega (arith, record_count (h ++ x), length-append h x)

  records_taken : take (length h / 80) (records (h ++ x)) ≡ records h
  records_taken =
      let n = length h / 80 in
      let len : length (take n (records (h ++ x))) ≡ n = length-take-le n (records (h ++ x)) fewer in
      ext_get_or [] (take n (records (h ++ x))) (records h) (len ∙ sym (record_count h))
      (λ k p. let q : k < n = omega (arith, p, len) in
      get_or-take n (records (h ++ x)) k [] q ∙ record_at (h ++ x) k (omega (arith, q, fewer, record_count (h ++ x)))
      ∙ card_front k q ∙ sym (record_at h k q))

  records_front : records (h ++ x) ≡ records h ++ drop (length h / 80) (records (h ++ x))
  records_front =
      sym (take-append-drop (length h / 80) (records (h ++ x)))
      ∙ ap (λ (rs : List (List ℕ)). rs ++ drop (length h / 80) (records (h ++ x))) records_taken

module _ (h : List ℕ) (whole : length h % 2880 ≡ 0) (e : has_end (records h) ≡ true) where
  -- the end of the block that has END
  abbrev block_end : ℕ
  block_end = (length (before_end (records h)) / 36 + 1) * 2880

  block_inside : block_end ≤ length h
  block_inside = omega (arith, whole, before_fewer (records h) e, record_count h)

  own_len : header_len h ≡ block_end
  unfolding header_len
  own_len = rw e (omega (arith, block_inside))

  front_len : (x : List ℕ) → header_len (h ++ x) ≡ block_end
  unfolding header_len
  front_len x =
      let rest = drop (length h / 80) (records (h ++ x)) in
      rw (records_front h x, has_front (records h) rest e, before_front (records h) rest e)
      (omega (arith, block_inside, length-append h x))

  pub header_front : (x : List ℕ) → header_len (h ++ x) ≡ header_len h
  header_front x = front_len x ∙ sym own_len

-- so a file whose header is whole has that header with any data behind it
module _ (f : List ℕ) (whole : length (header_of f) % 2880 ≡ 0) (e : has_end (records (header_of f)) ≡ true)
    (x : List ℕ) where
  same_len : header_len (header_of f ++ x) ≡ header_len f
  same_len =
      header_front (header_of f) whole e x ∙ sym (header_front (header_of f) whole e (data_of f))
      ∙ ap header_len (take-append-drop (header_len f) f)

  at_end : length (header_of f) ≡ header_len f
  at_end = length-take-le (header_len f) f (header_inside f)

  pub header_stays : header_of (header_of f ++ x) ≡ header_of f
  header_stays = rw same_len (take_at (header_of f) x (header_len f) at_end)

  pub data_behind : data_of (header_of f ++ x) ≡ x
  data_behind = rw same_len (drop_at (header_of f) x (header_len f) at_end)
