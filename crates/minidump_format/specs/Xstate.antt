-- The features of a processor's extended state, by their index: Microsoft's
-- XSTATE_LEGACY_FLOATING_POINT to XSTATE_LWP of winnt.h, and which of them a record enables.
use Rattle.std.specs.Prelude.{ℕ, List, [], ◌∷◌, codes, find, ◌==◌, Option, drop}
use Rattle.std.specs.List.{filter, enumerate_from}
use Rattle.std.specs.Int.{bit_at}
use Rattle.minidump_format.specs.declared.format.misc.XSTATE_FEATURE.{XSTATE_FEATURE}
use Rattle.minidump_format.specs.declared.format.misc.XSTATE_CONFIG_FEATURE_MSC_INFO.{XSTATE_CONFIG_FEATURE_MSC_INFO}
use Rattle.minidump_format.specs.declared.format.xstate.XstateFeatures.{XstateFeatures}
use Rattle.minidump_format.specs.declared.format.xstate.XstateFeatureIndex.{XstateFeatureIndex}
use Rattle.minidump_format.specs.declared.format.xstate.XstateFeatureIndex.TheVariants.{LEGACY_FLOATING_POINT}
use Rattle.minidump_format.specs.declared.format.xstate.XstateFeatureIndex.TheVariants.{LEGACY_SSE}
use Rattle.minidump_format.specs.declared.format.xstate.XstateFeatureIndex.TheVariants.{GSSE}
use Rattle.minidump_format.specs.declared.format.xstate.XstateFeatureIndex.TheVariants.{MPX_BNDREGS}
use Rattle.minidump_format.specs.declared.format.xstate.XstateFeatureIndex.TheVariants.{MPX_BNDCSR}
use Rattle.minidump_format.specs.declared.format.xstate.XstateFeatureIndex.TheVariants.{AVX512_KMASK}
use Rattle.minidump_format.specs.declared.format.xstate.XstateFeatureIndex.TheVariants.{AVX512_ZMM_H}
use Rattle.minidump_format.specs.declared.format.xstate.XstateFeatureIndex.TheVariants.{AVX512_ZMM}
use Rattle.minidump_format.specs.declared.format.xstate.XstateFeatureIndex.TheVariants.{XSTATE_IPT}
use Rattle.minidump_format.specs.declared.format.xstate.XstateFeatureIndex.TheVariants.{LWP}

-- of features that are numbered from an index on, those whose bit is set, each with its index
unfoldable pub enabled_from : ℕ → ℕ → List XSTATE_FEATURE → List (ℕ × XSTATE_FEATURE)
enabled_from enabled index features = filter (λ p. bit_at enabled p.0 == 1)
    (enumerate_from index features)

-- the enabled features, each with its index, ascending
abbrev pub xstate_features : XSTATE_CONFIG_FEATURE_MSC_INFO → List (ℕ × XSTATE_FEATURE)
xstate_features c = enabled_from c.enabled_features 0 c.features

-- what the iterator has left
abbrev pub features_left : XstateFeatures → List (ℕ × XSTATE_FEATURE)
features_left s = enabled_from s.config.now.enabled_features s.index
    (drop s.index s.config.now.features)

-- the index of each named feature
abbrev pub index_of : XstateFeatureIndex → ℕ
index_of LEGACY_FLOATING_POINT = 0
index_of LEGACY_SSE = 1
index_of GSSE = 2
index_of MPX_BNDREGS = 3
index_of MPX_BNDCSR = 4
index_of AVX512_KMASK = 5
index_of AVX512_ZMM_H = 6
index_of AVX512_ZMM = 7
index_of XSTATE_IPT = 8
index_of LWP = 62

-- its name
abbrev pub index_name : XstateFeatureIndex → List ℕ
index_name LEGACY_FLOATING_POINT = codes "LEGACY_FLOATING_POINT"
index_name LEGACY_SSE = codes "LEGACY_SSE"
index_name GSSE = codes "GSSE"
index_name MPX_BNDREGS = codes "MPX_BNDREGS"
index_name MPX_BNDCSR = codes "MPX_BNDCSR"
index_name AVX512_KMASK = codes "AVX512_KMASK"
index_name AVX512_ZMM_H = codes "AVX512_ZMM_H"
index_name AVX512_ZMM = codes "AVX512_ZMM"
index_name XSTATE_IPT = codes "XSTATE_IPT"
index_name LWP = codes "LWP"

-- the named feature that has an index, which is no other's
abbrev pub feature_of : ℕ → Option XstateFeatureIndex
feature_of n = find (λ f. index_of f == n) (LEGACY_FLOATING_POINT ∷ LEGACY_SSE ∷ GSSE ∷ MPX_BNDREGS
    ∷ MPX_BNDCSR ∷ AVX512_KMASK ∷ AVX512_ZMM_H
    ∷ AVX512_ZMM ∷ XSTATE_IPT ∷ LWP ∷ [])
