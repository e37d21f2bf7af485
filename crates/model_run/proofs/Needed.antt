-- Nets of a few systems that are all linked with each other: they are tidy.
use Rattle.std.{proofs.{Common.{◌≡◌, ◌≢◌, inl, inr, refl, sym, ap, ◌∙◌, ℕ, ◌<◌, arith, IsTrue, List, [], ◌∷◌, ◌↔◌, Some, None}, lemmas.Bool.{ltb-true, lt-ltb, and_parts, and_from, Decides.eqb_tells}}, specs.Prelude.{Bool, true, false, not, ◌&&◌, ◌==◌, nat_lt}}
use Rattle.model_graph.{specs.{Walk.{Among, Simple}, Cycle.Cycle}, proofs.Members.{ℕ-can_tell, walk_links}}
use Rattle.model_run.{specs.{Events.{Text, Filed, Copy, Event, Posts, Exports, Comes, Has, exported, filed}, Nets.{Net, Tidy}, RulesOrderly.{IsMet, IsNeeded, IsSettled}, Rules.{IsTarget, IsSentOnce, HasSeenBy, Rule, Kept, Always, IsPossible, ListsAll, filing, keeping, sending, telling, keys}}, proofs.{Targets.some_same, Chain.{chain, chain-parts, chain-tidy}}}

-- the systems 0, 1 and so on below n
abbrev pub polygon : ℕ → Net ℕ ℕ
polygon n = record {
  carries = λ a. nat_lt a n;
  linked = λ a b. nat_lt a n && (nat_lt b n && not (a == b));
  net_node = λ a. a;
}

false_true : (let no_bit : Bool = false in no_bit ≡ true) → ⊥
false_true e = cc

module _ (n : ℕ) where
  abbrev linked : ℕ → ℕ → Bool
  linked a b = (polygon n).linked a b

  pub linked-parts : (a b : ℕ) → IsTrue (linked a b) → (a < n) × (b < n) × (a ≢ b)
  linked-parts a b h = grind (arith, and_parts, ltb-true, eqb_tells, false_true)

  linked-from : (a b : ℕ) → a < n → b < n → a ≢ b → IsTrue (linked a b)
  linked-from a b below_a below_b other = grind (arith, and_from, lt-ltb, eqb_tells)

  simple : Simple linked
  simple = grind (arith, linked-parts, linked-from)

  in-cycle : (first : ℕ) (rest : List ℕ) → Cycle linked first rest → (x : ℕ) → Among x (first ∷ rest) → x < n
  in-cycle first rest cycle x h = grind (arith, linked-parts, walk_links, simple)

  pub polygon-tidy : Tidy (polygon n)
  polygon-tidy = record {
    joined = record {
      no_self = simple.no_self;
      both = simple.both_ways;
      carriers = λ a b h. lt-ltb a n (linked-parts a b h).0;
      apart = λ a b at_a at_b e. e;
      connected = λ a b at_a at_b. elim (ℕ-can_tell a b) [
        | inl e ↦ ([], e)
        | inr other ↦ (b ∷ [], (linked-from a b (ltb-true a n at_a) (ltb-true b n at_b) other, refl))
      ];
    };
    cycles = grind (arith, linked-from, in-cycle);
  }

-- For each rule a run in which tossers keep all rules but this one, and which is not orderly.

-- a message of key 7 with this content and an empty SEEN-BY
abbrev says : ℕ → Text ℕ ℕ ℕ
says content = record { key = 7; content = content; seen = [] }

-- system 0 posts it; it comes to system 1 from there
abbrev posted : ℕ → Filed ℕ ℕ ℕ ℕ
posted at = record { at = at; sender = None; text = says 1 }

abbrev received : ℕ → Filed ℕ ℕ ℕ ℕ
received content = record { at = 1; sender = Some 0; text = says content }

-- and it is sent as this copy
abbrev copied : ℕ → Copy ℕ ℕ ℕ ℕ
copied content = record { from = 0; to = 1; text = says content }

abbrev post : ℕ → Event ℕ ℕ ℕ ℕ
post at = Posts at (says 1)

abbrev send : ℕ → Event ℕ ℕ ℕ ℕ
send content = Exports (posted 0) (1 ∷ []) (λ x. says content)

abbrev come : ℕ → Event ℕ ℕ ℕ ℕ
come content = Comes (copied content) true

-- the only target of a message of 0 in a net of two systems is 1
only_target : (x : ℕ) → IsTarget (polygon 2) (posted 0) x → Among x (1 ∷ [])
only_target x target = let (below, under, other) = linked-parts 2 0 x target.link in inl (omega (arith, under, λ (e : x ≡ 0). other (sym e)))

is_target : (x : ℕ) → Among x (1 ∷ []) → IsTarget (polygon 2) (posted 0) x
is_target x h = grind arith

sent_once : (earlier : List (Event ℕ ℕ ℕ ℕ)) → Among (posted 0) (filed earlier) → ¬ Has 0 7 (exported earlier) →
    IsSentOnce (polygon 2) earlier (posted 0) (1 ∷ [])
sent_once earlier is_filed first = grind (arith, is_target, only_target)

-- an empty SEEN-BY misleads no receiver if 1 is the only one
reported : (x : ℕ) → Among x (1 ∷ []) → HasSeenBy (polygon 2) (posted 0) (1 ∷ []) x []
reported x h = grind (arith, linked-parts)

-- 1 has not filed the posting of 0
not_at_1 : ¬ Has 1 7 (posted 0 ∷ [])
not_at_1 has = grind arith

-- a copy that comes twice is filed twice
pub filing_needed : IsNeeded filing
filing_needed = record {
  net = polygon 2;
  tidy = polygon-tidy 2;
  run = come 1 ∷ come 1 ∷ send 1 ∷ post 0 ∷ [];
  possible = (inl refl, (inl refl, (tt, (refl, tt))));
  others = others;
  broken = λ orderly. orderly.filed_once.0 (inl refl);
}
  where
    others : (other : Rule) → other ≢ filing → Kept (polygon 2) (λ a b. a ≡ b) (come 1 ∷ come 1 ∷ send 1 ∷ post 0 ∷ []) other
    others filing apart = absurd (apart refl)
    others keeping apart = (tt, (tt, (λ x h. (refl, refl), (tt, tt))))
    others sending apart = (tt, (tt, (sent_once (post 0 ∷ []) (inl refl) (λ has. has.1), (tt, tt))))
    others telling apart = (tt, (tt, (reported, (λ d carrier h. absurd h, tt))))
    others keys apart = (tt, (tt, (tt, (λ m h. absurd h, tt))))

-- a message is sent with this content and filed, and nothing is left to do
abbrev settling : ℕ → List (Event ℕ ℕ ℕ ℕ)
settling content = Exports (received content) [] (λ x. says content) ∷ come content ∷ send content ∷ post 0 ∷ []

settled : (content : ℕ) → IsSettled (settling content)
settled content = record { all_exported = λ m h. h; all_came = λ copy h. h }

settling-possible : (content : ℕ) → Always (IsPossible (polygon 2)) (settling content)
settling-possible content = (tt, (inl refl, (tt, (refl, tt))))

settling-kept : (content : ℕ) (rule : Rule) → rule ≢ keeping → Kept (polygon 2) (λ a b. a ≡ b) (settling content) rule
settling-kept content rule h1 = grind (arith, not_at_1, sent_once, linked-parts, reported)

-- all rules are kept if the content stays
pub can_be_kept : IsMet
can_be_kept = record {
  net = polygon 2;
  tidy = polygon-tidy 2;
  run = settling 1;
  possible = settling-possible 1;
  kept = kept;
  settled = settled 1;
  sent = (copied 1, inl refl);
}
  where
    kept : (rule : Rule) → Kept (polygon 2) (λ a b. a ≡ b) (settling 1) rule
    kept filing = settling-kept 1 filing (λ e. cc)
    kept keeping = (λ x h. absurd h, (tt, (λ x h. (refl, refl), (tt, tt))))
    kept sending = settling-kept 1 sending (λ e. cc)
    kept telling = settling-kept 1 telling (λ e. cc)
    kept keys = settling-kept 1 keys (λ e. cc)

-- without the rule, a copy may have another content, and so the filed message
pub keeping_needed : IsNeeded keeping
keeping_needed = record {
  net = polygon 2;
  tidy = polygon-tidy 2;
  run = settling 2;
  possible = settling-possible 2;
  others = settling-kept 2;
  broken = λ orderly.
      let (m, h, at, key, content) = orderly.all_filed (settled 2) (posted 0) (inr (inl refl)) refl 1 refl in
      grind (arith, not_at_1);
}

-- a message is exported a second time
pub sending_needed : IsNeeded sending
sending_needed = record {
  net = polygon 2;
  tidy = polygon-tidy 2;
  run = send 1 ∷ send 1 ∷ post 0 ∷ [];
  possible = (tt, (tt, (refl, tt)));
  others = others;
  broken = λ orderly. orderly.sent_once.0 (inl refl);
}
  where
    others : (other : Rule) → other ≢ sending → Kept (polygon 2) (λ a b. a ≡ b) (send 1 ∷ send 1 ∷ post 0 ∷ []) other
    others filing apart = (tt, (tt, (tt, tt)))
    others keeping apart = (λ x h. (refl, refl), (λ x h. (refl, refl), (tt, tt)))
    others sending apart = absurd (apart refl)
    others telling apart = (reported, (reported, (λ d carrier h. absurd h, tt)))
    others keys apart = (tt, (tt, (λ m h. absurd h, tt)))

-- in a triangle the SEEN-BY for 1 lacks 2, which is sent the message too, and 1 sends it there again
abbrev unreported : List (Event ℕ ℕ ℕ ℕ)
unreported = Exports (received 1) (2 ∷ []) (λ x. says 1) ∷ come 1 ∷ Exports (posted 0) (1 ∷ 2 ∷ []) (λ x. says 1) ∷ post 0 ∷ []

pub telling_needed : IsNeeded telling
telling_needed = record {
  net = polygon 3;
  tidy = polygon-tidy 3;
  run = unreported;
  possible = (tt, (inl refl, (tt, (refl, tt))));
  others = others;
  broken = λ orderly. orderly.sent_once.0 (inr (inl refl));
}
  where
    from_0 : (x : ℕ) → Among x (1 ∷ 2 ∷ []) ↔ IsTarget (polygon 3) (posted 0) x
    from_0 x = grind (arith, linked-parts)

    from_1 : (x : ℕ) → Among x (2 ∷ []) ↔ IsTarget (polygon 3) (received 1) x
    from_1 x = grind (arith, some_same, linked-parts)

    others : (other : Rule) → other ≢ telling → Kept (polygon 3) (λ a b. a ≡ b) unreported other
    others filing apart = (tt, ((λ yes. (refl, not_at_1), λ new. refl), (tt, (tt, tt))))
    others keeping apart = (λ x h. (refl, refl), (tt, (λ x h. (refl, refl), (tt, tt))))
    others sending apart = grind (arith, not_at_1, from_1, from_0)
    others telling apart = absurd (apart refl)
    others keys apart = (tt, (tt, (tt, (λ m h. absurd h, tt))))

-- in a chain the SEEN-BY for 1 lists 2, and 1 does not pass the message on
abbrev hides : Text ℕ ℕ ℕ
hides = record { key = 7; content = 1; seen = 1 ∷ 2 ∷ [] }

abbrev at_1 : Filed ℕ ℕ ℕ ℕ
at_1 = record { at = 1; sender = Some 0; text = hides }

abbrev hidden : List (Event ℕ ℕ ℕ ℕ)
hidden = Exports at_1 [] (λ x. hides) ∷ Comes (record { from = 0; to = 1; text = hides }) true ∷ Exports (posted 0) (1 ∷ []) (λ x. hides) ∷ post 0 ∷ []

pub hiding_none_needed : (needed : IsNeeded telling) × Always (ListsAll needed.net) needed.run
hiding_none_needed = (
  record {
    net = chain;
    tidy = chain-tidy;
    run = hidden;
    possible = (tt, (inl refl, (tt, (refl, tt))));
    others = others;
    broken = λ orderly.
        let (m, h, at, key, content) = orderly.all_filed (record { all_exported = λ n i. i; all_came = λ c i. i }) (posted 0) (inr (inl refl)) refl 2 refl in
        elim h [
          | inl e ↦ absurd (elsewhere m at_1 2 1 e at refl (λ same. absurd (omega (arith, same))))
          | inr t ↦ elim t [
            | inl e ↦ absurd (elsewhere m (posted 0) 2 0 e at refl (λ same. absurd (omega (arith, same))))
            | inr none ↦ none
          ]
        ];
  },
  (λ x h. absurd h, (tt, (λ x h l i. elim i [ inl e ↦ inl e | inr none ↦ absurd none ], (tt, tt)))),
)
  where
    elsewhere : (m n : Filed ℕ ℕ ℕ ℕ) (a b : ℕ) → m ≡ n → m.at ≡ a → n.at ≡ b → a ≢ b → ⊥
    elsewhere m n a b e at_a at_b other = other (sym at_a ∙ (ap (λ (x : Filed ℕ ℕ ℕ ℕ). x.at) e ∙ at_b))

    others : (other : Rule) → other ≢ telling → Kept chain (λ a b. a ≡ b) hidden other
    others filing apart = (tt, ((λ yes. (refl, not_at_1), λ new. refl), (tt, (tt, tt))))
    others keeping apart = (λ x h. absurd h, (tt, (λ x h. (refl, refl), (tt, tt))))
    others sending apart = (
      record { is_filed = inl refl; first = not_at_1; targets = λ x. (λ h. absurd h, λ target. nobody x target); one_each = tt },
      (tt, (record { is_filed = inl refl; first = λ has. has.1; targets = from_0; one_each = (λ h. h, tt) }, (tt, tt))),
    )
      where
        nobody : (x : ℕ) → IsTarget chain at_1 x → ⊥
        nobody x target =
            let (below, under, near) = chain-parts 1 x target.link in
            elim near [
              | inl e ↦ target.not_seen (inr (inl (omega (arith, e))))
              | inr e ↦ (let zero : x ≡ 0 = omega (arith, e) in target.not_sender (ap (λ (a : ℕ). Some a) (sym zero)))
            ]

        from_0 : (x : ℕ) → Among x (1 ∷ []) ↔ IsTarget chain (posted 0) x
        from_0 x = (
          λ h. (elim h [
            | inl e ↦ rw e (record { link = refl; not_sender = λ none. cc; not_seen = λ i. i })
            | inr none ↦ absurd none
          ]),
          λ target. (let (below, under, near) = chain-parts 0 x target.link in
              elim near [ inl e ↦ inl (omega (arith, e)) | inr e ↦ absurd (omega (arith, e)) ]),
        )
    others telling apart = absurd (apart refl)
    others keys apart = (tt, (tt, (tt, (λ m h. absurd h, tt))))

-- two systems give one key to two messages, and one system is sent the other message with its own key
pub keys_needed : IsNeeded keys
keys_needed = record {
  net = polygon 2;
  tidy = polygon-tidy 2;
  run = send 1 ∷ post 1 ∷ post 0 ∷ [];
  possible = (tt, (refl, (refl, tt)));
  others = others;
  broken = λ orderly. orderly.never_own (posted 1) (inl refl) refl (inl refl);
}
  where
    others : (other : Rule) → other ≢ keys → Kept (polygon 2) (λ a b. a ≡ b) (send 1 ∷ post 1 ∷ post 0 ∷ []) other
    others filing apart = (tt, (tt, (tt, tt)))
    others keeping apart = (λ x h. (refl, refl), (tt, (tt, tt)))
    others sending apart = (sent_once (post 1 ∷ post 0 ∷ []) (inr (inl refl)) (λ has. has.1), (tt, (tt, tt)))
    others telling apart = (reported, (λ d carrier h. absurd h, (λ d carrier h. absurd h, tt)))
    others keys apart = absurd (apart refl)
