-- A line, tried before its end is known: how far its fields are looked for; fields that are formed have no line feed, so the end is sought
-- behind them; a line is blamed before its fields.
-- Assumes nothing.
use Rattle.std.specs.Prelude.{Option, Some, None, Ok, Err}
use Rattle.std.specs.Option.{unwrap_or, ok_or, option_and}
use mathlib.Core.Path.{◌≡◌, refl, sym, ◌∙◌, ap, subst}
use mathlib.Core.Bool.{Bool, true, false}
use mathlib.Core.List.{List}
use Prim.Native.Nat.{ℕ, zero, suc, ◌+◌, ◌-◌, ◌*◌, ◌<◌, ◌≤◌, min}
use native.Mathlib.Nat.{add-mul, one-mul, mul-le-mul_right, zero-mul}
use native.Mathlib.Omega.{arith}
use lib.ListN.{length, take, drop, length-take, length-drop}
use lib.Seq.{length-take-le}
use Rattle.rules.specs.declared.Rules.{Rules}
use Rattle.base.specs.Part.{part}
use Rattle.base.specs.Pieces.{both}
use Rattle.base.proofs.Choice.{true_T, T_true}
use Rattle.base.proofs.Every.{every_between}
use Rattle.base.proofs.Part.{part_append}
use Rattle.base.proofs.Taken.{take_none}
use Rattle.form.specs.declared.Form.{Form}
use Rattle.form.specs.Table.{row_of}
use Rattle.field.specs.Read.{field_of, formed}
use Rattle.field.proofs.Laws.{good_width, good_prints}
use Rattle.line.specs.Lines.{reach, Plain}
use Rattle.line.specs.Contents.{content_of}
use Rattle.line.proofs.Feeds.{plain_nil, plain_append, printable_plain}
use Rattle.line.proofs.Reach.{reach_le, reach_past}
use Rattle.line.proofs.Contents.{content_two, first_plain}
use Rattle.reading.specs.Blanks.{filled_to, as_field, is_formed_at, all_formed, FormedBelow, right_content, fields_span}
use Rattle.reading.specs.Plan.{Line}
use Rattle.reply.specs.declared.Refusal.TheVariants.{BadLine, BadField}
use Rattle.reading.specs.Read.{columns_of, misfit_of, read_field, read_fields, read_line, verdict_of, line_passed}
use Rattle.reading.proofs.Blanks.{as_filled, Fits}
use Rattle.reading.proofs.Checking.{past, stuck}
use Rattle.reading.proofs.Lines.{right_is, line_right, line_wrong}
use Rattle.reading.proofs.Fields.{rest_of, line_text, fields_start, fields_more, fields_none, line_ends, enough, piece, piece_range}

-- ---- how far fields are looked for

module _ (ρ : Rules) (s : List ℕ) (at : ℕ) (inside : at ≤ length s) where
  abbrev behind_line : ℕ
  behind_line = at + reach (drop at s) 1

  pub line_range : (at ≤ at + reach (drop at s) 1) × (at + reach (drop at s) 1 ≤ length s)
  line_range = (omega arith, omega (arith, reach_le (drop at s) 1, length-drop at s))

  pub content_fits : (n : ℕ) → content_of ρ (part at (at + reach (drop at s) 1) s) ≡ Some n → at + n ≤ length s
  content_fits n e = omega (arith, content_two ρ (part at behind_line s) n e, length-take (behind_line - at) (drop at s), length-drop at s)

  pub span_fits : at + unwrap_or (content_of ρ (part at (at + reach (drop at s) 1) s)) 0 ≤ length s
  span_fits = by (content_of ρ (part at (at + reach (drop at s) 1) s)) refl
    where
      by : (c : Option ℕ) → content_of ρ (part at (at + reach (drop at s) 1) s) ≡ c → at + unwrap_or c 0 ≤ length s
      by (Some n) e = content_fits n e
      by None e = omega arith

module _ (ρ : Rules) (short : Bool) (columns : ℕ) (s : List ℕ) (at : ℕ) (inside : at ≤ length s) where
  pub span_short : short ≡ true → unwrap_or (content_of ρ (part at (at + reach (drop at s) 1) s)) 0 ≡ fields_span ρ short columns s at
  unfolding fields_span
  span_short u = rw u refl

  pub span_none : short ≡ true → content_of ρ (part at (at + reach (drop at s) 1) s) ≡ None → at ≡ at + fields_span ρ short columns s at
  unfolding fields_span
  span_none u e = rw (u, e) (omega arith)

  pub span_content : short ≡ true → (n : ℕ) → content_of ρ (part at (at + reach (drop at s) 1) s) ≡ Some n → at + n ≡ at + fields_span ρ short columns s at
  unfolding fields_span
  span_content u n e = rw (u, e) refl

  pub span_columns : short ≡ false → at + min columns (length s - at) ≡ at + fields_span ρ short columns s at
  unfolding fields_span
  span_columns u = rw u refl

  module _ (stop : ℕ) (e : stop ≡ at + fields_span ρ short columns s at) where
    -- as far as the content goes, where lines may be short
    pub record Short : Type 0 where
      pub range : (at ≤ stop) × (stop ≤ length s)
      pub plain : Plain (part at stop s)
      pub content : (n : ℕ) → content_of ρ (part at (at + reach (drop at s) 1) s) ≡ Some n → stop ≡ at + n

    stop_short : short ≡ true → Short
    stop_short u = by (content_of ρ (part at (at + reach (drop at s) 1) s)) refl
      where
        by : (c : Option ℕ) → content_of ρ (part at (at + reach (drop at s) 1) s) ≡ c → Short
        by (Some n) v =
            let z : stop ≡ at + n = e ∙ sym (span_content u n v) in
            let r : at + reach (drop at s) 1 - at ≡ reach (drop at s) 1 = omega arith in
            let m : n ≡ stop - at = omega arith in
            record {
              range = (omega arith, omega (arith, content_fits ρ s at inside n v));
              plain = subst (λ i. Plain (take i (drop at s))) m (first_plain ρ (drop at s) n (rw r at v));
              content = λ i w. e ∙ sym (span_content u i w);
            }
        by None v =
            let z : stop ≡ at = e ∙ sym (span_none u v) in
            let m : stop - at ≡ 0 = omega arith in
            record {
              range = (omega arith, omega arith);
              plain = subst Plain (sym (ap (λ i. take i (drop at s)) m ∙ take_none (drop at s))) plain_nil;
              content = λ i w. e ∙ sym (span_content u i w);
            }

    stop_full : short ≡ false → stop ≡ at + min columns (length s - at)
    stop_full u = e ∙ sym (span_columns u)

    pub stop_range : (at ≤ stop) × (stop ≤ length s)
    stop_range = by (short) refl
      where
        by : (t : Bool) → short ≡ t → (at ≤ stop) × (stop ≤ length s)
        by true u = (stop_short u).range
        by false u = (omega (arith, stop_full u), omega (arith, stop_full u))

-- ---- a formed field has no line feed

formed_plain : (f : Form) (short : Bool) (s : List ℕ) → short ≡ false → formed (field_of f (as_field f short s)) ≡ true → (length s ≡ (row_of f).width) × Plain s
formed_plain f short s u e =
    let t = true_T (formed (field_of f s)) (rw u at e) in
    (good_width f s t, printable_plain s (good_prints f s t))

-- ---- the fields of a line that is right

-- from field i on they tell what all of them tell
pub record Fielding (f : Form) (l : Line) (text : List ℕ) (i : ℕ) : Type 0 where
  pub within : i ≤ l.many
  pub same : verdict_of (read_fields f (rest_of l i) (drop (i * (row_of f).width) text)) ≡ verdict_of (read_fields f l text)

module _ (ρ : Rules) (f : Form) (short : Bool) (l : Line) (s : List ℕ) (at : ℕ) (inside : at ≤ length s) where
  abbrev w : ℕ
  w = (row_of f).width

  abbrev end : ℕ
  end = at + reach (drop at s) 1

  pub wrong_line : right_content ρ short (columns_of f l) (part at (at + reach (drop at s) 1) s) ≡ None
      → verdict_of (read_line ρ f short l (part at (at + reach (drop at s) 1) s)) ≡ Err (BadLine l.number)
  wrong_line e = ap verdict_of (line_wrong ρ f short l (part at end s) e)

  module _ (m : ℕ) (e : right_content ρ short (columns_of f l) (part at (at + reach (drop at s) 1) s) ≡ Some m) where
    abbrev text : List ℕ
    text = line_text f l s at (at + reach (drop at s) 1) m

    pub content_inside : at + m < length s
    content_inside = omega (arith, line_ends ρ f short l s at end m (line_range ρ s at inside).1 e, (line_range ρ s at inside).1)

    pub fielding_start : Fielding f l (line_text f l s at (at + reach (drop at s) 1) m) 0
    fielding_start = record { within = omega arith; same = ap verdict_of (fields_start f l text) }

    -- all fields are clean
    fields_clean : (i : ℕ) → Fielding f l (line_text f l s at (at + reach (drop at s) 1) m) i → l.many ≤ i
        → verdict_of (read_line ρ f short l (part at (at + reach (drop at s) 1) s)) ≡ Ok tt
    fields_clean i g d =
        ap verdict_of (line_right ρ f short l (part at end s) m e) ∙ sym g.same
        ∙ ap verdict_of (fields_none f l text i (drop (i * w) text) d)

    module _ {i : ℕ} (g : Fielding f l (line_text f l s at (at + reach (drop at s) 1) m) i) (begin to : ℕ) (c : i < l.many) (o : begin ≡ min (at + i * (row_of f).width) (at + m))
        (t : to ≡ min (at + i * (row_of f).width + (row_of f).width) (at + m)) where
      pub field_range : (begin ≤ to) × (to ≤ length s) × Fits f short (to - begin)
      field_range = piece_range ρ f short l s at end m (line_range ρ s at inside).1 e i (at + i * w) begin to c refl o t

      field_is : filled_to w (part begin to s) ≡ take w (drop (i * w) text)
      field_is = piece ρ f short l s at end m (line_range ρ s at inside).1 e i (at + i * w) begin to c refl o t

      field_more : verdict_of (both (read_field f l.number (l.first + i) (filled_to w (part begin to s))) (read_fields f (rest_of l (i + 1)) (drop ((i + 1) * w) text))) ≡ verdict_of
          (read_fields f l text)
      field_more =
          ap (λ x. verdict_of (both (read_field f l.number (l.first + i) x) (read_fields f (rest_of l (i + 1)) (drop ((i + 1) * w) text)))) field_is
          ∙ sym (ap verdict_of (fields_more f l text i c)) ∙ g.same

      pub fielding_next : formed (field_of f (filled_to w (part begin to s))) ≡ true → Fielding f l (line_text f l s at (at + reach (drop at s) 1) m) (i + 1)
      fielding_next y =
          record {
            within = omega arith;
            same = sym (past (read_field f l.number (l.first + i) (filled_to w (part begin to s))) (read_fields f (rest_of l (i + 1)) (drop ((i + 1) * w) text)) (rw y refl)) ∙ field_more;
          }

      pub wrong_field : formed (field_of f (filled_to w (part begin to s))) ≡ false
          → verdict_of (read_line ρ f short l (part at (at + reach (drop at s) 1) s)) ≡ Err (BadField l.number (l.first + i))
      wrong_field y =
          ap verdict_of (line_right ρ f short l (part at end s) m e) ∙ sym field_more
          ∙ stuck (read_field f l.number (l.first + i) (filled_to w (part begin to s))) (read_fields f (rest_of l (i + 1)) (drop ((i + 1) * w) text))
          (BadField l.number (l.first + i)) (rw y refl)

  -- ---- the fields of any line, looked for up to `stop`

  module _ (stop : ℕ) (sought : stop ≡ at + fields_span ρ short (l.many * (row_of f).width) s at) where
    pub stops : (at ≤ stop) × (stop ≤ length s)
    stops = stop_range ρ short (l.many * w) s at inside stop sought

    -- the fields before field i are formed
    pub record Trying (i : ℕ) : Type 0 where
      pub within : i ≤ l.many
      pub reached : short ≡ false → at + i * (row_of f).width ≤ stop
      pub plain : short ≡ false → Plain (part at (at + i * (row_of f).width) s)
      -- if the line is right, they are its first fields
      pub right : (m : ℕ) → right_content ρ short (columns_of f l) (part at (at + reach (drop at s) 1) s) ≡ Some m → Fielding f l (line_text f l s at (at + reach (drop at s) 1) m) i

    pub trying_start : Trying 0
    trying_start =
        let z : at + 0 * w - at ≡ 0 = omega (arith, zero-mul w) in
        record {
          within = omega arith;
          reached = λ u. omega (arith, stops.0, zero-mul w);
          plain = λ u. subst Plain (sym (ap (λ i. take i (drop at s)) z ∙ take_none (drop at s))) plain_nil;
          right = λ m r. fielding_start m r;
        }

    module _ {i : ℕ} (g : Trying i) (c : i < l.many) where
      -- where the bytes that are tried begin and end
      abbrev begin : ℕ
      begin = min (at + i * w) stop

      abbrev to : ℕ
      to = min (at + i * w + w) stop

      next : at + i * w + w ≤ at + columns_of f l
      next = omega (arith, add-mul i 1 w, one-mul w, mul-le-mul_right {m = i + 1} {n = l.many} w (omega (arith, c)))

      try_range : (begin ≤ to) × (to ≤ length s) × (to - begin ≤ w)
      try_range = (omega arith, omega (arith, stops.1), omega arith)

      long : length (part begin to s) ≡ to - begin
      long = length-take-le (to - begin) (drop begin s) (omega (arith, try_range, length-drop begin s))

      -- where the line is right, this is where the field ends
      module _ (m : ℕ) (r : right_content ρ short (columns_of f l) (part at (at + reach (drop at s) 1) s) ≡ Some m) where
        ends_right : (begin ≡ min (at + i * w) (at + m)) × (to ≡ min (at + i * w + w) (at + m))
        ends_right = by short refl
          where
            by : (x : Bool) → short ≡ x → (begin ≡ min (at + i * w) (at + m)) × (to ≡ min (at + i * w + w) (at + m))
            by true u =
                let e = (stop_short ρ short (l.many * w) s at inside stop sought u).content m (right_is ρ short (columns_of f l) (part at end s) m r).content in
                (ap (min (at + i * w)) e, ap (min (at + i * w + w)) e)
            by false u =
                let n : columns_of f l ≤ m = rw u at (enough ρ f short l s at end m (line_range ρ s at inside).1 r) in
                let e = stop_full ρ short (l.many * w) s at inside stop sought u in
                let within = content_inside m r in
                (omega (arith, next, e, within), omega (arith, next, e, within))

        same : formed (field_of f (as_field f short (part begin to s))) ≡ formed (field_of f (filled_to w (part begin to s)))
        same =
            let fit = (field_range m r (g.right m r) begin to c ends_right.0 ends_right.1).2 in
            ap (λ x. formed (field_of f x)) (as_filled f short (part begin to s) (subst (Fits f short) (sym long) fit))

      pub trying_next : is_formed_at f short at stop s i ≡ true → Trying (i + 1)
      trying_next y =
          let wide : at + (i + 1) * w ≡ at + i * w + w = omega (arith, add-mul i 1 w, one-mul w) in
          record {
            within = omega (arith, c);
            reached = λ u. omega (arith, (whole u).1, wide);
            plain = λ u. subst (λ n. Plain (part at n s)) ((whole u).1 ∙ sym wide)
                (subst Plain (part_append s at (at + i * w) to (omega arith) (omega (arith, whole u)))
                (plain_append (part at (at + i * w) s) (part (at + i * w) to s) (g.plain u)
                (subst (λ n. Plain (part n to s)) (whole u).0 (formed_plain f short (part begin to s) u y).1)));
            right = λ m r. fielding_next m r (g.right m r) begin to c (ends_right m r).0 (ends_right m r).1 (sym (same m r) ∙ y);
          }
        where
          -- where lines may not be short, a field that is formed is there whole
          whole : short ≡ false → (begin ≡ at + i * w) × (to ≡ at + i * w + w)
          whole u =
              let e : begin ≡ at + i * w = omega (arith, g.reached u) in
              (e, omega (arith, e, (formed_plain f short (part begin to s) u y).0, long, try_range))

      -- a line that is not right is blamed, and otherwise the field
      pub trying_wrong : is_formed_at f short at stop s i ≡ false
          → verdict_of (read_line ρ f short l (part at (at + reach (drop at s) 1) s)) ≡ Err
          (misfit_of l.number (l.first + i) (right_content ρ short (columns_of f l) (part at (at + reach (drop at s) 1) s)))
      trying_wrong y = by (right_content ρ short (columns_of f l) (part at end s)) refl
        where
          by : (x : Option ℕ) → right_content ρ short (columns_of f l) (part at (at + reach (drop at s) 1) s) ≡ x
              → verdict_of (read_line ρ f short l (part at (at + reach (drop at s) 1) s)) ≡ Err (misfit_of l.number (l.first + i) x)
          by (Some m) v = wrong_field m v (g.right m v) begin to c (ends_right m v).0 (ends_right m v).1 (sym (same m v) ∙ y)
          by None v = wrong_line v

    tried : (i : ℕ) → i ≤ l.many → FormedBelow f short at stop s i → Trying i
    tried zero h good = trying_start
    tried (suc i) h good =
        let more : i + 1 ≡ suc i = omega arith in
        subst Trying more (trying_next (tried i (omega arith) (λ k b. good k (omega arith))) (omega arith) (good i (omega arith)))

    -- the first misformed field
    pub field_blamed : (i : ℕ) → i < l.many → FormedBelow f short at stop s i → is_formed_at f short at stop s i ≡ false
        → verdict_of (read_line ρ f short l (part at (at + reach (drop at s) 1) s)) ≡ Err
        (misfit_of l.number (l.first + i) (right_content ρ short (columns_of f l) (part at (at + reach (drop at s) 1) s)))
    field_blamed i c good y = trying_wrong (tried i (omega arith) good) c y

    -- all fields are formed: the line's end is sought behind them
    module _ (good : FormedBelow f short at stop s l.many) where
      pub all_tried : Trying l.many
      all_tried = tried l.many (omega arith) good

      pub ends : stop + reach (drop stop s) 1 ≡ at + reach (drop at s) 1
      ends = reach_past s at stop 0 stops.0 stops.1 (by short refl)
        where
          by : (x : Bool) → short ≡ x → Plain (part at stop s)
          by true u = (stop_short ρ short (l.many * w) s at inside stop sought u).plain
          by false u =
              let n : at + l.many * w ≡ stop = omega (arith, all_tried.reached u, stop_full ρ short (l.many * w) s at inside stop sought u) in
              subst (λ x. Plain (part at x s)) n (all_tried.plain u)

      pub line_clean : (m : ℕ) → right_content ρ short (columns_of f l) (part at (at + reach (drop at s) 1) s) ≡ Some m
          → verdict_of (read_line ρ f short l (part at (at + reach (drop at s) 1) s)) ≡ Ok tt
      line_clean m r = fields_clean m r l.many (all_tried.right m r) (omega arith)

      -- what the code answers: where the line ends, or that it is wrong
      pub line_told : ok_or (option_and (right_content ρ short (columns_of f l) (part at (at + reach (drop at s) 1) s)) (Some (at + reach (drop at s) 1))) (BadLine l.number)
          ≡ line_passed (at + reach (drop at s) 1) (verdict_of (read_line ρ f short l (part at (at + reach (drop at s) 1) s)))
      line_told = by (right_content ρ short (columns_of f l) (part at end s)) refl
        where
          by : (o : Option ℕ) → right_content ρ short (columns_of f l) (part at (at + reach (drop at s) 1) s) ≡ o
              → ok_or (option_and o (Some (at + reach (drop at s) 1))) (BadLine l.number) ≡ line_passed (at + reach (drop at s) 1) (verdict_of (read_line ρ f short l (part at (at + reach (drop at s) 1) s)))
          by (Some m) e = sym (ap (line_passed end) (line_clean m e))
          by None e = sym (ap (line_passed end) (wrong_line e))

-- fields that were seen to be formed in one look
pub formed_each : (f : Form) (short : Bool) (at stop : ℕ) (s : List ℕ) (k : ℕ) → all_formed f short at stop s k ≡ true → FormedBelow f short at stop s k
unfolding all_formed
formed_each f short at stop s k all i h = T_true _ (every_between (is_formed_at f short at stop s) 0 k (true_T _ all) i (omega arith) (omega arith))
