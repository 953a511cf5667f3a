-- `==` of the records that hold other records, or arrays: it is true of the same record alone.
use Rattle.std.proofs.Common.{◌≡◌, Bool, true, false, ◌&&◌, List, Decides, refl, sym, rules, tests}
use mathlib.Core.Bool.{true≢false}
use Rattle.std.specs.Cmp.Lexicographic.{pointwise, pointwise_decides}
use Rattle.std.proofs.lemmas.Bool.Decides.{Decides-eqb, Decides-int_eq}
use Rattle.std.proofs.lemmas.Slice.Eq.{bytes_eq-Decides}
use Rattle.minidump_format.specs.declared.format.misc.XSTATE_FEATURE.{XSTATE_FEATURE}
use Rattle.minidump_format.specs.declared.format.misc.SYSTEMTIME.{SYSTEMTIME}
use Rattle.minidump_format.specs.declared.format.misc.TIME_ZONE_INFORMATION.{TIME_ZONE_INFORMATION}
use Rattle.minidump_format.specs.declared.format.misc.XSTATE_CONFIG_FEATURE_MSC_INFO.{XSTATE_CONFIG_FEATURE_MSC_INFO}
use Rattle.minidump_format.specs.declared.format.misc.MINIDUMP_MISC_INFO_3.{MINIDUMP_MISC_INFO_3}
use Rattle.minidump_format.specs.declared.format.misc.MINIDUMP_MISC_INFO_4.{MINIDUMP_MISC_INFO_4}
use Rattle.minidump_format.specs.declared.format.misc.MINIDUMP_MISC_INFO_5.{MINIDUMP_MISC_INFO_5}
use Rattle.minidump_format.specs.declared.format.header.MINIDUMP_LOCATION_DESCRIPTOR.{MINIDUMP_LOCATION_DESCRIPTOR}
use Rattle.minidump_format.specs.declared.format.module.VS_FIXEDFILEINFO.{VS_FIXEDFILEINFO}
use Rattle.minidump_format.specs.declared.format.module.MINIDUMP_MODULE.{MINIDUMP_MODULE}
use Rattle.minidump_format.specs.declared.format.mac.MINIDUMP_MAC_CRASH_INFO.{MINIDUMP_MAC_CRASH_INFO}
use Rattle.minidump_format.specs.contracts.format.misc.XSTATE_FEATUREPartialEq.TheImpl.{ghosts as feature}
use Rattle.minidump_format.specs.contracts.format.header.MINIDUMP_LOCATION_DESCRIPTORPartialEq.TheImpl.{ghosts as location}
use Rattle.minidump_format.specs.contracts.format.module.VS_FIXEDFILEINFOPartialEq.TheImpl.{ghosts as version}
use Rattle.minidump_format.specs.contracts.format.module.MINIDUMP_MODULEPartialEq.TheImpl.{ghosts as image}
use Rattle.minidump_format.specs.contracts.format.mac.MINIDUMP_MAC_CRASH_INFOPartialEq.TheImpl.{ghosts as mac}
use Rattle.minidump_format.specs.contracts.format.misc.SYSTEMTIMEPartialEq.TheImpl.{ghosts as time}
use Rattle.minidump_format.specs.contracts.format.misc.TIME_ZONE_INFORMATIONPartialEq.TheImpl.{ghosts as zone}
use Rattle.minidump_format.specs.contracts.format.misc.XSTATE_CONFIG_FEATURE_MSC_INFOPartialEq.TheImpl.{ghosts as config}
use Rattle.minidump_format.specs.contracts.format.misc.MINIDUMP_MISC_INFO_3PartialEq.TheImpl.{ghosts as misc_3}
use Rattle.minidump_format.specs.contracts.format.misc.MINIDUMP_MISC_INFO_4PartialEq.TheImpl.{ghosts as misc_4}
use Rattle.minidump_format.specs.contracts.format.misc.MINIDUMP_MISC_INFO_5PartialEq.TheImpl.{ghosts as misc_5}

-- where a test and those after it hold, so does what it decides
then : {P Q : Type 0} (s t : Bool) → Decides s P → (P → t ≡ true → Q) → (s && t) ≡ true → Q
then true t first next both = next (first.0 refl) both
then false t first next both = absurd (true≢false (sym both))

-- the smaller records: a feature and a date
feature_same : (x y : XSTATE_FEATURE) → Decides (feature.eq x y) (x ≡ y)
feature_same x y = (λ h. search rules, λ h. search rules)

-- lists of features equal themselves
features_alike : (fs : List XSTATE_FEATURE) → pointwise feature.eq fs fs ≡ true
features_alike fs = (pointwise_decides feature_same fs fs).1 refl

time_same : (x y : SYSTEMTIME) → Decides (time.eq x y) (x ≡ y)
time_same x y = (λ h. search rules, λ h. search rules)

-- the time zone
zone_only : (x y : TIME_ZONE_INFORMATION) → zone.eq x y ≡ true → x ≡ y
zone_only x y =
    then _ _ (Decides-int_eq x.bias y.bias) λ bias.
    then _ _ (bytes_eq-Decides x.standard_name y.standard_name) λ standard_name.
    then _ _ (time_same x.standard_date y.standard_date) λ standard_date.
    then _ _ (Decides-int_eq x.standard_bias y.standard_bias) λ standard_bias.
    then _ _ (bytes_eq-Decides x.daylight_name y.daylight_name) λ daylight_name.
    then _ _ (time_same x.daylight_date y.daylight_date) λ daylight_date h.
    let daylight_bias = (Decides-int_eq x.daylight_bias y.daylight_bias).0 h in
    search rules

pub zone_same : (x y : TIME_ZONE_INFORMATION) → Decides (zone.eq x y) (x ≡ y)
zone_same x y = (zone_only x y, λ h. rw h (search (rules, tests, bytes_eq-Decides)))

-- the extended state
config_only : (x y : XSTATE_CONFIG_FEATURE_MSC_INFO) → config.eq x y ≡ true → x ≡ y
config_only x y =
    then _ _ (Decides-eqb x.size_of_info y.size_of_info) λ size_of_info.
    then _ _ (Decides-eqb x.context_size y.context_size) λ context_size.
    then _ _ (Decides-eqb x.enabled_features y.enabled_features) λ enabled_features h.
    let features = (pointwise_decides feature_same x.features y.features).0 h in
    search rules

pub config_same : (x y : XSTATE_CONFIG_FEATURE_MSC_INFO) → Decides (config.eq x y) (x ≡ y)
config_same x y = (config_only x y, λ h. rw (h, features_alike y.features) (search (rules, tests, bytes_eq-Decides)))

-- the three layouts of the misc information that have a time zone
misc_3_only : (x y : MINIDUMP_MISC_INFO_3) → misc_3.eq x y ≡ true → x ≡ y
misc_3_only x y h = grind (rules, tests, zone_same)

pub misc_3_same : (x y : MINIDUMP_MISC_INFO_3) → Decides (misc_3.eq x y) (x ≡ y)
misc_3_same x y = (misc_3_only x y, λ h. rw h (search (rules, tests, bytes_eq-Decides)))

misc_4_only : (x y : MINIDUMP_MISC_INFO_4) → misc_4.eq x y ≡ true → x ≡ y
misc_4_only x y =
    then _ _ (Decides-eqb x.size_of_info y.size_of_info) λ size_of_info.
    then _ _ (Decides-eqb x.flags1 y.flags1) λ flags1.
    then _ _ (Decides-eqb x.process_id y.process_id) λ process_id.
    then _ _ (Decides-eqb x.process_create_time y.process_create_time) λ process_create_time.
    then _ _ (Decides-eqb x.process_user_time y.process_user_time) λ process_user_time.
    then _ _ (Decides-eqb x.process_kernel_time y.process_kernel_time) λ process_kernel_time.
    then _ _ (Decides-eqb x.processor_max_mhz y.processor_max_mhz) λ processor_max_mhz.
    then _ _ (Decides-eqb x.processor_current_mhz y.processor_current_mhz) λ processor_current_mhz.
    then _ _ (Decides-eqb x.processor_mhz_limit y.processor_mhz_limit) λ processor_mhz_limit.
    then _ _ (Decides-eqb x.processor_max_idle_state y.processor_max_idle_state) λ processor_max_idle_state.
    then _ _ (Decides-eqb x.processor_current_idle_state y.processor_current_idle_state) λ processor_current_idle_state.
    then _ _ (Decides-eqb x.process_integrity_level y.process_integrity_level) λ process_integrity_level.
    then _ _ (Decides-eqb x.process_execute_flags y.process_execute_flags) λ process_execute_flags.
    then _ _ (Decides-eqb x.protected_process y.protected_process) λ protected_process.
    then _ _ (Decides-eqb x.time_zone_id y.time_zone_id) λ time_zone_id.
    then _ _ (zone_same x.time_zone y.time_zone) λ time_zone.
    then _ _ (bytes_eq-Decides x.build_string y.build_string) λ build_string h.
    let dbg_bld_str = (bytes_eq-Decides x.dbg_bld_str y.dbg_bld_str).0 h in
    search rules

pub misc_4_same : (x y : MINIDUMP_MISC_INFO_4) → Decides (misc_4.eq x y) (x ≡ y)
misc_4_same x y = (misc_4_only x y, λ h. rw h (search (rules, tests, bytes_eq-Decides)))

misc_5_only : (x y : MINIDUMP_MISC_INFO_5) → misc_5.eq x y ≡ true → x ≡ y
misc_5_only x y =
    then _ _ (Decides-eqb x.size_of_info y.size_of_info) λ size_of_info.
    then _ _ (Decides-eqb x.flags1 y.flags1) λ flags1.
    then _ _ (Decides-eqb x.process_id y.process_id) λ process_id.
    then _ _ (Decides-eqb x.process_create_time y.process_create_time) λ process_create_time.
    then _ _ (Decides-eqb x.process_user_time y.process_user_time) λ process_user_time.
    then _ _ (Decides-eqb x.process_kernel_time y.process_kernel_time) λ process_kernel_time.
    then _ _ (Decides-eqb x.processor_max_mhz y.processor_max_mhz) λ processor_max_mhz.
    then _ _ (Decides-eqb x.processor_current_mhz y.processor_current_mhz) λ processor_current_mhz.
    then _ _ (Decides-eqb x.processor_mhz_limit y.processor_mhz_limit) λ processor_mhz_limit.
    then _ _ (Decides-eqb x.processor_max_idle_state y.processor_max_idle_state) λ processor_max_idle_state.
    then _ _ (Decides-eqb x.processor_current_idle_state y.processor_current_idle_state) λ processor_current_idle_state.
    then _ _ (Decides-eqb x.process_integrity_level y.process_integrity_level) λ process_integrity_level.
    then _ _ (Decides-eqb x.process_execute_flags y.process_execute_flags) λ process_execute_flags.
    then _ _ (Decides-eqb x.protected_process y.protected_process) λ protected_process.
    then _ _ (Decides-eqb x.time_zone_id y.time_zone_id) λ time_zone_id.
    then _ _ (zone_same x.time_zone y.time_zone) λ time_zone.
    then _ _ (bytes_eq-Decides x.build_string y.build_string) λ build_string.
    then _ _ (bytes_eq-Decides x.dbg_bld_str y.dbg_bld_str) λ dbg_bld_str.
    then _ _ (config_same x.xstate_data y.xstate_data) λ xstate_data h.
    let process_cookie = (Decides-eqb x.process_cookie y.process_cookie).0 h in
    search rules

pub misc_5_same : (x y : MINIDUMP_MISC_INFO_5) → Decides (misc_5.eq x y) (x ≡ y)
misc_5_same x y = (misc_5_only x y, λ h. rw (h, features_alike y.xstate_data.features) (search (rules, tests, bytes_eq-Decides)))

location_same : (x y : MINIDUMP_LOCATION_DESCRIPTOR) → Decides (location.eq x y) (x ≡ y)
location_same x y = (λ h. search rules, λ h. search rules)

locations_alike : (ls : List MINIDUMP_LOCATION_DESCRIPTOR) → pointwise location.eq ls ls ≡ true
locations_alike ls = (pointwise_decides location_same ls ls).1 refl

version_same : (x y : VS_FIXEDFILEINFO) → Decides (version.eq x y) (x ≡ y)
version_same x y = (λ h. grind rules, λ h. grind rules)

-- the module
image_only : (x y : MINIDUMP_MODULE) → image.eq x y ≡ true → x ≡ y
image_only x y h = grind (rules, tests, bytes_eq-Decides, version_same, location_same)

pub image_same : (x y : MINIDUMP_MODULE) → Decides (image.eq x y) (x ≡ y)
image_same x y = (image_only x y, λ h. rw h (search (rules, tests, bytes_eq-Decides)))

-- the crash information of macOS
mac_only : (x y : MINIDUMP_MAC_CRASH_INFO) → mac.eq x y ≡ true → x ≡ y
mac_only x y =
    then _ _ (Decides-eqb x.stream_type y.stream_type) λ stream_type.
    then _ _ (Decides-eqb x.record_count y.record_count) λ record_count.
    then _ _ (Decides-eqb x.record_start_size y.record_start_size) λ record_start_size h.
    let records = (pointwise_decides location_same x.records y.records).0 h in
    search rules

pub mac_same : (x y : MINIDUMP_MAC_CRASH_INFO) → Decides (mac.eq x y) (x ≡ y)
mac_same x y = (mac_only x y, λ h. rw (h, locations_alike y.records) (search (rules, tests)))
