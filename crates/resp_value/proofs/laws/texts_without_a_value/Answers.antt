use Rattle.resp_value.proofs.RefusedExamples.{attribute_alone, empty_double, word_as_double, double_without_whole, double_without_fraction, double_without_exponent, hexadecimal_double, longer_infinity, plus_infinity, double, more_than_64_bits, below_64_bits, streamed_string_in_two, streamed_in_two, array_switched_off, string_switched_off}
use Rattle.resp_value.proofs.laws.texts_without_a_value.Goals as goal

pub returns-clause-attribute_alone : goal.returns-clause-attribute_alone
returns-clause-attribute_alone c = attribute_alone

pub returns-clause-double : goal.returns-clause-double
returns-clause-double c = double

pub returns-clause-more_than_64_bits : goal.returns-clause-more_than_64_bits
returns-clause-more_than_64_bits c = more_than_64_bits

pub returns-clause-streamed_in_two : goal.returns-clause-streamed_in_two
returns-clause-streamed_in_two c = streamed_in_two

pub returns-clause-array_switched_off : goal.returns-clause-array_switched_off
returns-clause-array_switched_off c = array_switched_off

pub returns-clause-string_switched_off : goal.returns-clause-string_switched_off
returns-clause-string_switched_off c = string_switched_off

pub returns-clause-below_64_bits : goal.returns-clause-below_64_bits
returns-clause-below_64_bits c = below_64_bits

pub returns-clause-streamed_string_in_two : goal.returns-clause-streamed_string_in_two
returns-clause-streamed_string_in_two c = streamed_string_in_two

pub returns-clause-empty_double : goal.returns-clause-empty_double
returns-clause-empty_double c = empty_double

pub returns-clause-word_as_double : goal.returns-clause-word_as_double
returns-clause-word_as_double c = word_as_double

pub returns-clause-double_without_whole : goal.returns-clause-double_without_whole
returns-clause-double_without_whole c = double_without_whole

pub returns-clause-double_without_fraction : goal.returns-clause-double_without_fraction
returns-clause-double_without_fraction c = double_without_fraction

pub returns-clause-double_without_exponent : goal.returns-clause-double_without_exponent
returns-clause-double_without_exponent c = double_without_exponent

pub returns-clause-hexadecimal_double : goal.returns-clause-hexadecimal_double
returns-clause-hexadecimal_double c = hexadecimal_double

pub returns-clause-longer_infinity : goal.returns-clause-longer_infinity
returns-clause-longer_infinity c = longer_infinity

pub returns-clause-plus_infinity : goal.returns-clause-plus_infinity
returns-clause-plus_infinity c = plus_infinity
