use Rattle.resp_value.proofs.Examples.{plus_and_zeros, minus_zero, length_with_zero, bulk_null, array_null, plain_null, big_minus_zero, verbatim, chunks, streamed_map, attribute, error, bulk_error, set, streamed_array, streamed_set, double, exponent, infinity, negative_nan}
use Rattle.resp_value.proofs.laws.texts_and_their_values.Goals as goal

pub returns-clause-plus_and_zeros : goal.returns-clause-plus_and_zeros
returns-clause-plus_and_zeros c = plus_and_zeros

pub returns-clause-minus_zero : goal.returns-clause-minus_zero
returns-clause-minus_zero c = minus_zero

pub returns-clause-length_with_zero : goal.returns-clause-length_with_zero
returns-clause-length_with_zero c = length_with_zero

pub returns-clause-bulk_null : goal.returns-clause-bulk_null
returns-clause-bulk_null c = bulk_null

pub returns-clause-array_null : goal.returns-clause-array_null
returns-clause-array_null c = array_null

pub returns-clause-plain_null : goal.returns-clause-plain_null
returns-clause-plain_null c = plain_null

pub returns-clause-big_minus_zero : goal.returns-clause-big_minus_zero
returns-clause-big_minus_zero c = big_minus_zero

pub returns-clause-verbatim : goal.returns-clause-verbatim
returns-clause-verbatim c = verbatim

pub returns-clause-chunks : goal.returns-clause-chunks
returns-clause-chunks c = chunks

pub returns-clause-streamed_map : goal.returns-clause-streamed_map
returns-clause-streamed_map c = streamed_map

pub returns-clause-attribute : goal.returns-clause-attribute
returns-clause-attribute c = attribute

pub returns-clause-error : goal.returns-clause-error
returns-clause-error c = error

pub returns-clause-bulk_error : goal.returns-clause-bulk_error
returns-clause-bulk_error c = bulk_error

pub returns-clause-set : goal.returns-clause-set
returns-clause-set c = set

pub returns-clause-streamed_array : goal.returns-clause-streamed_array
returns-clause-streamed_array c = streamed_array

pub returns-clause-streamed_set : goal.returns-clause-streamed_set
returns-clause-streamed_set c = streamed_set

pub returns-clause-double : goal.returns-clause-double
returns-clause-double c = double

pub returns-clause-exponent : goal.returns-clause-exponent
returns-clause-exponent c = exponent

pub returns-clause-infinity : goal.returns-clause-infinity
returns-clause-infinity c = infinity

pub returns-clause-negative_nan : goal.returns-clause-negative_nan
returns-clause-negative_nan c = negative_nan
