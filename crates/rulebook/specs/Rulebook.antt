-- The rulebook of document 01, group by group and sentence by sentence, for a current row of kind k.
use Rattle.std.specs.Prelude.{Bool, List, [], ◌∷◌, ◌++◌, ℕ, ◌+◌, ◌^◌, eqb, leb}
use Rattle.algebra.specs.Expr.{Expr, con, ◌⊕◌, ◌⊖◌, ◌⊗◌}
use Rattle.algebra.specs.Lists.{range}
use Rattle.table.specs.Cells.{Cell, local, lv, nv, mask}
use Rattle.table.specs.Entry.{sum}
use Rattle.table.specs.Masks as M
use Rattle.table.specs.Columns.{REGISTER-NUM, CTX-REGISTER-NUM, NUM-OP-SELECTOR, COL-TX-IDX as TX-IDX, COL-ENV-IDX as ENV-IDX, COL-CALL-SC-CNT as CALL-SC-CNT, COL-ADDR-STORAGE-RANGE-START as STORAGE, COL-ADDR-CODE-RANGE-START as CODE, COL-TP as TP, COL-CLK as CLK, COL-PC as PC, COL-IS-EXT-LINE as IS-EXT-LINE, COL-EXT-CNT as EXT-CNT, COL-REGS-START as REGS, COL-INST as INST, COL-OP1-IMM as OP1-IMM, COL-OPCODE as OPCODE, COL-IMM-VAL as IMM-VAL, COL-OP0 as OP0, COL-OP1 as OP1, COL-DST as DST, COL-AUX0 as AUX0, COL-AUX1 as AUX1, COL-S-OP0-START as S-OP0, COL-S-OP1-START as S-OP1, COL-S-DST-START as S-DST, COL-S-SIMPLE-ARITHMATIC-OP as SELECTORS, COL-S-END as S-END, COL-S-CALL-SC as S-CALL-SC, COL-FILTER-TAPE-LOOKING as FILTER-TAPE-LOOKING, IS-SCCALL-EXT-LINE, COL-FILTER-SCCALL-END as FILTER-SCCALL-END, COL-FILTER-LOOKING-PROG-IMM as FILTER-LOOKING-PROG-IMM}
use Rattle.rulebook.specs.Rule.{Rule, fact, ◌≐◌, deny, ◌and◌, ◌or◌, ◌⇒◌, Sentence, always, [t], [f], keeps_all}
use Rattle.rulebook.specs.Kind.{SIMPLE-ARITHMATIC-OP, MOV, JMP, CJMP, CALL, RET, MLOAD, MSTORE, END, RC, BITWISE, NOT, GTE, PSDN, SLOAD, SSTORE, TLOAD, TSTORE, CALL-SC, ones, kind_of, choose}
use Rattle.rulebook.specs.Words.{DIFF, SAME, ENTRY, PAD, on, off, on', off', main, ext, main', ext', kept, grows, bit, every, some, tells, ◌is◌, ◌among◌, next_among}

-- "Ext kinds: SLOAD SSTORE TLOAD TSTORE CALL_SC END."
abbrev pub ext_kinds : List ℕ
ext_kinds = SLOAD ∷ SSTORE ∷ TLOAD ∷ TSTORE ∷ CALL-SC ∷ END ∷ []

-- "Length: SLOAD, SSTORE, CALL_SC 1; TLOAD OP0·OP1 + 1 − OP0; TSTORE OP1; END 1 − entry; others 0."
abbrev pub ext_length : ℕ → Expr Cell
ext_length k =
    choose k
    ((SLOAD, con 1)
    ∷ (SSTORE, con 1)
    ∷ (CALL-SC, con 1)
    ∷ (TLOAD, lv OP0 ⊗ lv OP1 ⊕ con 1 ⊖ lv OP0)
    ∷ (TSTORE, lv OP1)
    ∷ (END, con 1 ⊖ lv ENTRY)
    ∷ [])
    (con 0)

-- "OPCODE is that one's mask; for arithmetic one of the first five, for bitwise AND, OR or XOR": each kind beside the places of its masks
abbrev pub kind_masks : List (ℕ × List ℕ)
kind_masks =
    (SIMPLE-ARITHMATIC-OP, M.ADD ∷ M.MUL ∷ M.EQ ∷ M.NEQ ∷ M.ASSERT ∷ [])
    ∷ (MOV, M.MOV ∷ [])
    ∷ (JMP, M.JMP ∷ [])
    ∷ (CJMP, M.CJMP ∷ [])
    ∷ (CALL, M.CALL ∷ [])
    ∷ (RET, M.RET ∷ [])
    ∷ (MLOAD, M.MLOAD ∷ [])
    ∷ (MSTORE, M.MSTORE ∷ [])
    ∷ (END, M.END ∷ [])
    ∷ (RC, M.RC ∷ [])
    ∷ (BITWISE, M.AND ∷ M.OR ∷ M.XOR ∷ [])
    ∷ (NOT, M.NOT ∷ [])
    ∷ (GTE, M.GTE ∷ [])
    ∷ (PSDN, M.POSEIDON ∷ [])
    ∷ (SLOAD, M.SLOAD ∷ [])
    ∷ (SSTORE, M.SSTORE ∷ [])
    ∷ (TLOAD, M.TLOAD ∷ [])
    ∷ (TSTORE, M.TSTORE ∷ [])
    ∷ (CALL-SC, M.SCCALL ∷ [])
    ∷ []

-- those of the kind k
abbrev pub masks_of : ℕ → List ℕ
masks_of k = choose k kind_masks []

-- "size is 2 for MLOAD, MSTORE, else 1 + OP1_IMM"
abbrev pub size : ℕ → Expr Cell
size k = choose k ((MLOAD, con 2) ∷ (MSTORE, con 2) ∷ []) (con 1 ⊕ lv OP1-IMM)

-- "PC' is OP1 for JMP and CALL, DST for RET, OP1 for CJMP with OP0 1, else PC + size"
abbrev pub goes_on : ℕ → Rule
goes_on k =
    choose k
    ((JMP, nv PC ≐ lv OP1)
    ∷ (CALL, nv PC ≐ lv OP1)
    ∷ (RET, nv PC ≐ lv DST)
    ∷ (CJMP, (on OP0 ⇒ nv PC ≐ lv OP1) and (deny (on OP0) ⇒ nv PC ≐ lv PC ⊕ size k))
    ∷ [])
    (nv PC ≐ lv PC ⊕ size k)

-- the ten selectors of a group as a part of the instruction word, the first shifted by n
abbrev pub word_part : ℕ → ℕ → Expr Cell
word_part s n = sum (λ i. lv (s + i) ⊗ con (2 ^ (n + i))) REGISTER-NUM

module _ (x : Cell → ℕ) (k : ℕ) where
  abbrev pub current : ℕ → ℕ
  current c = x (local c)

  unfoldable pub rules_A : List Sentence
  rules_A =
      -- "pad is 0 or 1."
      always (bit (lv PAD))
      -- "[t] pad' − pad is 0 or 1."
      ∷ [t] (bit (nv PAD ⊖ lv PAD))
      -- "pad → END."
      ∷ always (on PAD ⇒ k is END)
      -- "entry → ENV_IDX' 0."
      ∷ always (on ENTRY ⇒ off' ENV-IDX)
      -- "pad' 0 and same → TX_IDX' = TX_IDX."
      ∷ always (off' PAD and on SAME ⇒ kept TX-IDX)
      -- "[t] pad' 0, not same → TX_IDX' = TX_IDX + 1."
      ∷ [t] (off' PAD and off SAME ⇒ grows TX-IDX 1)
      -- "diff → EXT_CNT = length."
      ∷ always (on DIFF ⇒ lv EXT-CNT ≐ ext_length k)
      ∷ []

  unfoldable pub rules_B : List Sentence
  rules_B =
      -- "[f] TX_IDX, ENV_IDX, CALL_SC_CNT, CLK, PC, registers are 0."
      [f] (every (TX-IDX ∷ ENV-IDX ∷ CALL-SC-CNT ∷ CLK ∷ PC ∷ range REGS REGISTER-NUM) off)
      -- "[t] same → TX_IDX kept; not same → ENV_IDX', CALL_SC_CNT', TP', CLK', PC', registers' are 0."
      ∷ [t]
      ((on SAME ⇒ kept TX-IDX)
      and (off SAME ⇒ every (ENV-IDX ∷ CALL-SC-CNT ∷ TP ∷ CLK ∷ PC ∷ range REGS REGISTER-NUM) off'))
      ∷ []

  unfoldable pub rules_C : List Sentence
  rules_C =
      -- "[t] with pad' 0: not END → TX_IDX kept; entry and END → it grows by 1; neither END nor CALL_SC → both addresses kept."
      [t]
      (off' PAD ⇒
      (deny (k is END) ⇒ kept TX-IDX)
      and (on ENTRY and k is END ⇒ grows TX-IDX 1)
      and (deny (k among (END ∷ CALL-SC ∷ [])) ⇒ every (range STORAGE CTX-REGISTER-NUM) kept and every (range CODE CTX-REGISTER-NUM) kept))
      -- "Where pad equals IS_EXT_LINE: OP1_IMM 1, MLOAD or MSTORE → column 92 is 1."
      ∷ always (lv PAD ≐ lv IS-EXT-LINE ⇒ on OP1-IMM or k among (MLOAD ∷ MSTORE ∷ []) ⇒ on FILTER-LOOKING-PROG-IMM)
      ∷ []

  unfoldable pub rules_D : List Sentence
  rules_D =
      -- "not ext kind → main."
      always (deny (k among ext_kinds) ⇒ main)
      -- "Ext kind: next main → EXT_CNT = length; main → EXT_CNT 0."
      ∷ always (k among ext_kinds ⇒ (main' ⇒ lv EXT-CNT ≐ ext_length k) and (main ⇒ off EXT-CNT))
      -- "Next ext kind and ext → EXT_CNT' = EXT_CNT + 1."
      ∷ always (next_among ext_kinds and ext' ⇒ grows EXT-CNT 1)
      -- "Next ext → OPCODE, 19 selectors, OP1_IMM kept."
      ∷ always (ext' ⇒ kept OPCODE and every (range SELECTORS NUM-OP-SELECTOR) kept and kept OP1-IMM)
      ∷ []

  unfoldable pub rules_E : List Sentence
  rules_E =
      -- "[t] CALL_SC and diff → CALL_SC_CNT' = CALL_SC_CNT + 1."
      [t] (k is CALL-SC and on DIFF ⇒ grows CALL-SC-CNT 1)
      -- "CALL_SC and diff → ENV_IDX' = CALL_SC_CNT, on the last row too."
      ∷ always (k is CALL-SC and on DIFF ⇒ nv ENV-IDX ≐ lv CALL-SC-CNT)
      -- "[t] same, not CALL_SC → CALL_SC_CNT kept."
      ∷ [t] (on SAME and deny (k is CALL-SC) ⇒ kept CALL-SC-CNT)
      -- "CALL_SC, not diff → CALL_SC_CNT and ENV_IDX kept."
      ∷ always (k is CALL-SC and off DIFF ⇒ kept CALL-SC-CNT and kept ENV-IDX)
      -- "Neither CALL_SC nor END, or END and ext → ENV_IDX kept."
      ∷ always (deny (k among (CALL-SC ∷ END ∷ [])) or (k is END and ext) ⇒ kept ENV-IDX)
      ∷ []

  unfoldable pub rules_F : List Sentence
  rules_F =
      -- "the 19 selectors are 0 or 1, exactly one is 1."
      always (every (range SELECTORS NUM-OP-SELECTOR) (λ s. bit (lv s)))
      ∷ always (fact (eqb (ones current SELECTORS NUM-OP-SELECTOR) 1))
      -- "OPCODE is that one's mask; for arithmetic one of the first five, for bitwise AND, OR or XOR."
      ∷ always (some (masks_of k) (λ j. lv OPCODE ≐ mask j))
      ∷ []

  unfoldable pub rules_G : List Sentence
  rules_G =
      -- "OP1_IMM is 0 or 1."
      always (bit (lv OP1-IMM))
      -- "Main → INST = OP1_IMM·2^62 + OPCODE + sums of S_OP0[i]·2^(52+i), S_OP1[i]·2^(42+i), S_DST[i]·2^(32+i);"
      ∷ always
      (main ⇒
      lv INST ≐ lv OP1-IMM ⊗ con (2 ^ 62) ⊕ lv OPCODE ⊕ word_part S-OP0 52 ⊕ word_part S-OP1 42 ⊕ word_part S-DST 32)
      -- "with OP1_IMM 1, OP1 = IMM_VAL."
      ∷ always (main and on OP1-IMM ⇒ lv OP1 ≐ lv IMM-VAL)
      ∷ []

  -- "main → each group's selectors are 0 or 1, at most one is 1; a chosen register equals …": one group, from column s on, with the
  -- registers and the operand that they are held to
  abbrev pub operand_rules : ℕ → (ℕ → Expr Cell) → Expr Cell → List Sentence
  operand_rules s register operand =
      always (main ⇒ every (range s REGISTER-NUM) (λ c. bit (lv c)))
      ∷ always (main ⇒ fact (leb (ones current s REGISTER-NUM) 1))
      ∷ always (main ⇒ every (range 0 REGISTER-NUM) (λ i. on (s + i) ⇒ register (REGS + i) ≐ operand))
      ∷ []

  unfoldable pub rules_H : List Sentence
  rules_H =
      -- "OP0 (current), OP1 (current), DST (next)."
      operand_rules S-OP0 lv (lv OP0) ++ operand_rules S-OP1 lv (lv OP1) ++ operand_rules S-DST nv (lv DST)

  unfoldable pub rules_I : List Sentence
  rules_I =
      -- "next ext, not END' → CLK kept."
      always (ext' and off' S-END ⇒ kept CLK)
      -- "same, neither CALL_SC nor END, next main → CLK' = CLK + 1."
      ∷ always (on SAME and deny (k among (CALL-SC ∷ END ∷ [])) and main' ⇒ grows CLK 1)
      ∷ []

  unfoldable pub rules_J : List Sentence
  rules_J =
      -- "value 147 repeats I's first rule (the comment says PC, the code CLK)."
      always (ext' and off' S-END ⇒ kept CLK)
      -- "Next main, neither END nor CALL_SC → PC' is …"
      ∷ always (main' and deny (k among (END ∷ CALL-SC ∷ [])) ⇒ goes_on k)
      -- "CJMP, next main → OP0 is 0 or 1."
      ∷ always (k is CJMP and main' ⇒ bit (lv OP0))
      ∷ []

  unfoldable pub rules_K : List Sentence
  rules_K =
      -- "[t] registers 0..8 kept where S_DST[i] is not 1, unless SLOAD, PSDN, CALL_SC with diff, or END main."
      [t]
      (deny (k among (SLOAD ∷ PSDN ∷ []) or (k is CALL-SC and on DIFF) or (k is END and main)) ⇒
      every (range 0 9) (λ i. deny (on (S-DST + i)) ⇒ kept (REGS + i)))
      -- "[t] Register 9 kept where S_DST[9] is not 1, unless RET, CALL_SC with diff, or END."
      ∷ [t] (deny (k among (RET ∷ END ∷ []) or (k is CALL-SC and on DIFF)) ⇒ deny (on (S-DST + 9)) ⇒ kept (REGS + 9))
      ∷ []

  -- "with d = OP0 − OP1"
  abbrev pub d : Expr Cell
  d = lv OP0 ⊖ lv OP1

  -- "the name told by OPCODE"
  abbrev pub named : ℕ → Rule
  named j = lv OPCODE ≐ mask j

  unfoldable pub rules_L : List Sentence
  rules_L =
      -- "only with the arithmetic selector 1, the name told by OPCODE: ADD DST = OP0 + OP1; MUL the product; ASSERT OP1 = 1; with
      -- d = OP0 − OP1, EQ DST·d + (1 − DST)(1 − d·AUX0) = 0, NEQ the same with DST and 1 − DST exchanged."
      always
      (k is SIMPLE-ARITHMATIC-OP ⇒
      (named M.ADD ⇒ lv DST ≐ lv OP0 ⊕ lv OP1)
      and (named M.MUL ⇒ lv DST ≐ lv OP0 ⊗ lv OP1)
      and (named M.ASSERT ⇒ on OP1)
      and (named M.EQ ⇒ lv DST ⊗ d ⊕ (con 1 ⊖ lv DST) ⊗ (con 1 ⊖ d ⊗ lv AUX0) ≐ con 0)
      and (named M.NEQ ⇒ (con 1 ⊖ lv DST) ⊗ d ⊕ lv DST ⊗ (con 1 ⊖ d ⊗ lv AUX0) ≐ con 0))
      ∷ []

  unfoldable pub rules_M : List Sentence
  rules_M =
      -- "next ext and TLOAD or TSTORE → OP0, OP1 kept."
      always (ext' and k among (TLOAD ∷ TSTORE ∷ []) ⇒ kept OP0 and kept OP1)
      -- "TLOAD or TSTORE, ext, next ext → AUX0, S_OP0[0] grow by 1."
      ∷ always (k among (TLOAD ∷ TSTORE ∷ []) and ext and ext' ⇒ grows AUX0 1 and grows S-OP0 1)
      -- "TSTORE main → S_OP0[0]' = TP, AUX0' = OP0."
      ∷ always (k is TSTORE and main ⇒ nv S-OP0 ≐ lv TP and nv AUX0 ≐ lv OP0)
      -- "TLOAD main → AUX0' = DST; OP0 not 0 → S_OP0[0]' + OP1 = TP; OP0 not 1 → S_OP0[0]' = OP1."
      ∷ always
      (k is TLOAD and main ⇒
      nv AUX0 ≐ lv DST
      and (deny (off OP0) ⇒ nv S-OP0 ⊕ lv OP1 ≐ lv TP)
      and (deny (on OP0) ⇒ nv S-OP0 ≐ lv OP1))
      -- "TSTORE: next ext → TP kept; next main → TP' = S_OP0[0] + 1."
      ∷ always (k is TSTORE ⇒ (ext' ⇒ kept TP) and (main' ⇒ nv TP ≐ lv S-OP0 ⊕ con 1))
      -- "same, and TSTORE and CALL_SC' both or neither → TP kept."
      ∷ always (on SAME and ((k is TSTORE and on' S-CALL-SC) or (deny (k is TSTORE) and off' S-CALL-SC)) ⇒ kept TP)
      -- "CALL_SC' without CALL_SC, or CALL_SC main → TP kept."
      ∷ always ((on' S-CALL-SC and deny (k is CALL-SC)) or (k is CALL-SC and main) ⇒ kept TP)
      -- "CALL_SC ext → TP' = TP + 12."
      ∷ always (k is CALL-SC and ext ⇒ grows TP 12)
      -- "Column 88 is 1 for TLOAD or TSTORE ext, else 0."
      ∷ always (tells FILTER-TAPE-LOOKING (k among (TLOAD ∷ TSTORE ∷ []) and ext))
      ∷ []

  unfoldable pub rules_N : List Sentence
  rules_N =
      -- "CALL_SC main → S_OP0[0..3]' and [4..7]' hold storage and code address, OP0, OP1 kept."
      always
      (k is CALL-SC and main ⇒
      every (range 0 4) (λ i. nv (S-OP0 + i) ≐ lv (STORAGE + i))
      and every (range 0 4) (λ i. nv (S-OP0 + (4 + i)) ≐ lv (CODE + i))
      and kept OP0
      and kept OP1)
      -- "[t] END, not diff → AUX0' = ENV_IDX, AUX1' = CLK."
      ∷ [t] (k is END and off DIFF ⇒ nv AUX0 ≐ lv ENV-IDX and nv AUX1 ≐ lv CLK)
      -- "CALL_SC and diff → CLK', PC', registers' 0, addresses kept."
      ∷ always
      (k is CALL-SC and on DIFF ⇒
      every (CLK ∷ PC ∷ range REGS REGISTER-NUM) off'
      and every (range STORAGE CTX-REGISTER-NUM) kept
      and every (range CODE CTX-REGISTER-NUM) kept)
      -- "END, ext, not diff → PC, CLK kept."
      ∷ always (k is END and ext and off DIFF ⇒ kept PC and kept CLK)
      -- "Column 89 is 1 for CALL_SC ext, else 0;"
      ∷ always (tells IS-SCCALL-EXT-LINE (k is CALL-SC and ext))
      -- "column 91 likewise for END."
      ∷ always (tells FILTER-SCCALL-END (k is END and ext))
      ∷ []

  unfoldable pub rulebook : List Sentence
  rulebook =
      rules_A
      ++ rules_B
      ++ rules_C
      ++ rules_D
      ++ rules_E
      ++ rules_F
      ++ rules_G
      ++ rules_H
      ++ rules_I
      ++ rules_J
      ++ rules_K
      ++ rules_L
      ++ rules_M
      ++ rules_N

-- whether a pair keeps every rule, for a row that is first, or last
unfoldable pub keeps : (Cell → ℕ) → Bool → Bool → Bool
keeps x first last = keeps_all x first last (rulebook x (kind_of x))
